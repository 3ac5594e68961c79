-- What a command of a script sets for the calls after it. Assumes nothing.
use Rattle.std.specs.Prelude.{◌≡◌, None, Some, List, ℕ, get_or}
use Rattle.std.specs.declared.option.Option.{Option}
use Rattle.run.specs.Totals.{tally_of}
use Rattle.slots.specs.declared.settings.Settings.{Settings}
use Rattle.slots.specs.declared.command.Command.{Command}
use Rattle.slots.specs.declared.command.Command.TheVariants.{Slots, Lengths, Tally}

-- as many numbers of each slice are lent
pub record SameLengths (before after : Settings) : Type 0 where
  pub run : after.run ≡ before.run
  pub outcomes : after.outcomes ≡ before.outcomes
  pub sent : after.sent ≡ before.sent

-- lengths set the lengths and totals the tally; slots leave the lengths; any other command, and a line that is none, sets nothing
abbrev pub Sets : Settings → Option Command → Settings → Type 0
Sets before (Some (Lengths lengths)) after = after ≡ record { run = get_or lengths 0 0; outcomes = get_or lengths 1 0; sent = get_or lengths 2 0; tally = before.tally }
Sets before (Some (Tally totals)) after = (after.tally ≡ tally_of totals) × SameLengths before after
Sets before (Some (Slots times offers)) after = SameLengths before after
Sets before _ after = after ≡ before

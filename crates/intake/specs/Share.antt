-- How the packets offered in a slot are shared out: those above the headroom are over, of those within it the room may hold fewer, and the rest is taken in. Assumes nothing.
use Rattle.std.specs.Prelude.{◌≡◌, List, ℕ, ◌-◌, min, get_or}
use Rattle.std.proofs.Common.{ap, ap₂, ◌∙◌}
use Rattle.layout.specs.Layout.{room_at, taken_at, sent_at, envelope_ahead_at}
use Rattle.intake.specs.declared.Share.{Share}

-- of the offered packets, with this headroom and this much free room
abbrev pub admitted : ℕ → ℕ → ℕ → Share
admitted offered headroom free =
    record { taken = min (min offered headroom) free; over = offered - min offered headroom; no_room = min offered headroom - min (min offered headroom) free }

-- what the envelope leaves above the packets taken in: ahead(1) - A
abbrev pub headroom_of : List ℕ → ℕ
headroom_of b = get_or b envelope_ahead_at 0 - get_or b taken_at 0

-- the room less the packets that wait
abbrev pub free_of : List ℕ → ℕ
free_of b = get_or b room_at 0 - (get_or b taken_at 0 - get_or b sent_at 0)

abbrev pub share_of : List ℕ → ℕ → Share
share_of b offered = admitted offered (headroom_of b) (free_of b)

-- the steps of the code: first those within the headroom, then those taken in
pub admitted-by : (offered headroom free within taken : ℕ) → within ≡ min offered headroom → taken ≡ min within free
    → ◌≡◌ {A = Share} (record { taken = taken; over = offered - within; no_room = within - taken }) (admitted offered headroom free)
admitted-by offered headroom free within taken e f =
    ap₂ (λ (w t : ℕ). the_share t (offered - w) (w - t)) e (f ∙ ap (λ w. min w free) e)
  where
    the_share : ℕ → ℕ → ℕ → Share
    the_share a b c = record { taken = a; over = b; no_room = c }

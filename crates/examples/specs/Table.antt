-- Document 01's starred examples as one table: a sheet as 01 writes it and as bytes, the answer to it, and a run on it. Rows alone: that they hold is
-- claimed and proved in Claim. Assumes nothing.
use Rattle.std.specs.Prelude.{List, [], ◌∷◌, ◌++◌, map, ℕ, ◌-◌, length, replicate}
use Rattle.curve.specs.Curve.{Curve}
use Rattle.curve.specs.declared.Slots.{Slots}
use Rattle.sheet.specs.Limits.{most_sessions}
use Rattle.sheet.specs.Sheet.{Session, Sheet}
use Rattle.verdict.specs.declared.Verdict.{Verdict}
use Rattle.verdict.specs.declared.Verdict.TheVariants.{Passed, Failed}

-- what comes of a slot, as numbers: for each session those taken in, over and without room; for each packet its session, its number and its deadline
pub record Slot : Type 0 where
  pub outcomes : List ℕ
  -- the packets taken in, by session and number
  pub taken : List ℕ
  -- the packets sent, in sending order
  pub sent : List ℕ

pub record Row : Type 0 where
  pub sheet : Sheet
  pub bytes : List ℕ
  -- the answer: 01 names no figures for K4 to K8, but they are part of it
  pub verdict : Verdict
  pub figures : List Slots
  -- the offers of a run, slot by slot, and what comes of each slot; none where 01 runs nothing
  pub offers : List (List ℕ)
  pub slots : List Slot

abbrev curve : List ℕ → ℕ → Curve
curve table rate = record { table = table; rate = rate }

-- a service and an envelope. The room is 4 throughout: 01 names no other, and a verdict does not ask for it
abbrev served : Curve → Curve → Session
served service envelope = record { service = service; envelope = envelope; room = 4 }

abbrev link : ℕ → ℕ → List Session → Sheet
link c P sessions = record { capacity = c; period = P; sessions = sessions }

-- the slack and the least t that gives it; the least t that fails
abbrev passed : ℕ → ℕ → Verdict
passed slack t = Passed (record { 0 = slack }) (record { 0 = t })

abbrev failed : ℕ → Verdict
failed t = Failed (record { 0 = t })

-- sixteen figures in all, zeros past the last session
abbrev sixteen : List ℕ → List Slots
sixteen figures = map (λ n. record { 0 = n }) (figures ++ replicate (most_sessions - length figures) 0)

-- K1: c=1, P=1, S: 1 rate 1; b: 3 rate 1. Passed, slack 0 at 1, figure 2
abbrev pub K1 : Row
K1 = record {
  sheet = link 1 1 (served (curve (1 ∷ []) 1) (curve (3 ∷ []) 1) ∷ []);
  bytes =
      0 ∷ 0 ∷ 0 ∷ 0x0f ∷ 1 ∷ 1 ∷ 1 ∷ 1
      ∷ 1 ∷ 1 ∷ 3 ∷ 0 ∷ 1 ∷ 0 ∷ 1 ∷ 0 ∷ 1 ∷ 0 ∷ 3 ∷ [];
  verdict = passed 0 1;
  figures = sixteen (2 ∷ []);
  offers = [];
  slots = [];
}

-- K2: K1 with room 4, offers 3 then 3. Slot 1 takes 3 with deadlines 1, 2, 3; slot 2 takes 1 (over 2), deadline 4
abbrev pub K2 : Row
K2 = record {
  sheet = K1.sheet;
  bytes = K1.bytes;
  verdict = K1.verdict;
  figures = K1.figures;
  offers = (3 ∷ []) ∷ (3 ∷ []) ∷ [];
  slots =
      record { outcomes = 3 ∷ 0 ∷ 0 ∷ []; taken = 1 ∷ 1 ∷ 1 ∷ 1 ∷ 2 ∷ 2 ∷ 1 ∷ 3 ∷ 3 ∷ []; sent = 1 ∷ 1 ∷ 1 ∷ [] }
      ∷ record { outcomes = 1 ∷ 2 ∷ 0 ∷ []; taken = 1 ∷ 4 ∷ 4 ∷ []; sent = 1 ∷ 2 ∷ 2 ∷ [] }
      ∷ [];
}

-- a slot that offers nothing to two sessions
abbrev quiet : List ℕ → Slot
quiet sent = record { outcomes = 0 ∷ 0 ∷ 0 ∷ 0 ∷ 0 ∷ 0 ∷ []; taken = []; sent = sent }

-- K3: c=1, P=2. S1: 0,1 rate 1; S2: 1,1 rate 1; both b: 2,2 rate 1; rooms 4. Passed, slack 0 at 1, figures 3 and 2. Its bytes and its run are those of K12
abbrev pub K3 : Row
K3 = record {
  sheet = link 1 2 (served (curve (0 ∷ 1 ∷ []) 1) (curve (2 ∷ 2 ∷ []) 1) ∷ served (curve (1 ∷ 1 ∷ []) 1) (curve (2 ∷ 2 ∷ []) 1) ∷ []);
  bytes =
      0 ∷ 0 ∷ 0 ∷ 0x22 ∷ 1 ∷ 1 ∷ 2 ∷ 2
      ∷ 2 ∷ 2 ∷ 3 ∷ 0 ∷ 1 ∷ 0 ∷ 1 ∷ 0 ∷ 0 ∷ 0 ∷ 1 ∷ 0 ∷ 2 ∷ 0 ∷ 2
      ∷ 2 ∷ 2 ∷ 3 ∷ 0 ∷ 1 ∷ 0 ∷ 1 ∷ 0 ∷ 1 ∷ 0 ∷ 1 ∷ 0 ∷ 2 ∷ 0 ∷ 2 ∷ [];
  verdict = passed 0 1;
  figures = sixteen (3 ∷ 2 ∷ []);
  offers = (2 ∷ 2 ∷ []) ∷ (0 ∷ 0 ∷ []) ∷ (0 ∷ 0 ∷ []) ∷ (0 ∷ 0 ∷ []) ∷ [];
  slots =
      record { outcomes = 2 ∷ 0 ∷ 0 ∷ 2 ∷ 0 ∷ 0 ∷ []; taken = 1 ∷ 1 ∷ 2 ∷ 1 ∷ 2 ∷ 4 ∷ 2 ∷ 1 ∷ 1 ∷ 2 ∷ 2 ∷ 3 ∷ []; sent = 2 ∷ 1 ∷ 1 ∷ [] }
      ∷ quiet (1 ∷ 1 ∷ 2 ∷ [])
      ∷ quiet (2 ∷ 2 ∷ 3 ∷ [])
      ∷ quiet (1 ∷ 2 ∷ 4 ∷ [])
      ∷ [];
}

-- K4: K3 with both services 1,1: fails at 1
abbrev pub K4 : Row
K4 = record {
  sheet = link 1 2 (served (curve (1 ∷ 1 ∷ []) 1) (curve (2 ∷ 2 ∷ []) 1) ∷ served (curve (1 ∷ 1 ∷ []) 1) (curve (2 ∷ 2 ∷ []) 1) ∷ []);
  bytes =
      0 ∷ 0 ∷ 0 ∷ 0x22 ∷ 1 ∷ 1 ∷ 2 ∷ 2
      ∷ 2 ∷ 2 ∷ 3 ∷ 0 ∷ 1 ∷ 0 ∷ 1 ∷ 0 ∷ 1 ∷ 0 ∷ 1 ∷ 0 ∷ 2 ∷ 0 ∷ 2
      ∷ 2 ∷ 2 ∷ 3 ∷ 0 ∷ 1 ∷ 0 ∷ 1 ∷ 0 ∷ 1 ∷ 0 ∷ 1 ∷ 0 ∷ 2 ∷ 0 ∷ 2 ∷ [];
  verdict = failed 1;
  figures = sixteen (2 ∷ 2 ∷ []);
  offers = [];
  slots = [];
}

-- K5: K4 with the second envelope 0,0 rate 0: passed, slack 0 at 1
abbrev pub K5 : Row
K5 = record {
  sheet = link 1 2 (served (curve (1 ∷ 1 ∷ []) 1) (curve (2 ∷ 2 ∷ []) 1) ∷ served (curve (1 ∷ 1 ∷ []) 1) (curve (0 ∷ 0 ∷ []) 0) ∷ []);
  bytes =
      0 ∷ 0 ∷ 0 ∷ 0x22 ∷ 1 ∷ 1 ∷ 2 ∷ 2
      ∷ 2 ∷ 2 ∷ 3 ∷ 0 ∷ 1 ∷ 0 ∷ 1 ∷ 0 ∷ 1 ∷ 0 ∷ 1 ∷ 0 ∷ 2 ∷ 0 ∷ 2
      ∷ 2 ∷ 2 ∷ 3 ∷ 0 ∷ 1 ∷ 0 ∷ 0 ∷ 0 ∷ 1 ∷ 0 ∷ 1 ∷ 0 ∷ 0 ∷ 0 ∷ 0 ∷ [];
  verdict = passed 0 1;
  figures = sixteen (2 ∷ 0 ∷ []);
  offers = [];
  slots = [];
}

-- K6: c=1, P=1. First S: 1 rate 1, b: 5 rate 0. Second S: 0,0,0,0,1 rate 1, b: 1 rate 1. Fails at 5
abbrev pub K6 : Row
K6 = record {
  sheet = link 1 1 (served (curve (1 ∷ []) 1) (curve (5 ∷ []) 0) ∷ served (curve (0 ∷ 0 ∷ 0 ∷ 0 ∷ 1 ∷ []) 1) (curve (1 ∷ []) 1) ∷ []);
  bytes =
      0 ∷ 0 ∷ 0 ∷ 0x22 ∷ 1 ∷ 1 ∷ 1 ∷ 2
      ∷ 1 ∷ 1 ∷ 3 ∷ 0 ∷ 1 ∷ 0 ∷ 0 ∷ 0 ∷ 1 ∷ 0 ∷ 5
      ∷ 5 ∷ 1 ∷ 3 ∷ 0 ∷ 1 ∷ 0 ∷ 1 ∷ 0 ∷ 0 ∷ 0 ∷ 0 ∷ 0 ∷ 0 ∷ 0 ∷ 0 ∷ 0 ∷ 1 ∷ 0 ∷ 1 ∷ [];
  verdict = failed 5;
  figures = sixteen (4 ∷ 4 ∷ []);
  offers = [];
  slots = [];
}

-- K7: K6 with one more 0 in front of the second service table: passed, slack 0 at 1
abbrev pub K7 : Row
K7 = record {
  sheet = link 1 1 (served (curve (1 ∷ []) 1) (curve (5 ∷ []) 0) ∷ served (curve (0 ∷ 0 ∷ 0 ∷ 0 ∷ 0 ∷ 1 ∷ []) 1) (curve (1 ∷ []) 1) ∷ []);
  bytes =
      0 ∷ 0 ∷ 0 ∷ 0x24 ∷ 1 ∷ 1 ∷ 1 ∷ 2
      ∷ 1 ∷ 1 ∷ 3 ∷ 0 ∷ 1 ∷ 0 ∷ 0 ∷ 0 ∷ 1 ∷ 0 ∷ 5
      ∷ 6 ∷ 1 ∷ 3 ∷ 0 ∷ 1 ∷ 0 ∷ 1 ∷ 0 ∷ 0 ∷ 0 ∷ 0 ∷ 0 ∷ 0 ∷ 0 ∷ 0 ∷ 0 ∷ 0 ∷ 0 ∷ 1 ∷ 0 ∷ 1 ∷ [];
  verdict = passed 0 1;
  figures = sixteen (4 ∷ 5 ∷ []);
  offers = [];
  slots = [];
}

-- K8: c=1, P=1, S1: 1 rate 1, S2: sixty-four zeros, rate 1; both b: 500 rate 256. Fails at 65, past every table
abbrev pub K8 : Row
K8 = record {
  sheet = link 1 1 (served (curve (1 ∷ []) 1) (curve (500 ∷ []) 256) ∷ served (curve (replicate 64 0) 1) (curve (500 ∷ []) 256) ∷ []);
  bytes =
      0 ∷ 0 ∷ 0 ∷ 0x98 ∷ 1 ∷ 1 ∷ 1 ∷ 2
      ∷ 1 ∷ 1 ∷ 3 ∷ 0 ∷ 1 ∷ 1 ∷ 0 ∷ 0 ∷ 1 ∷ 0x01 ∷ 0xf4
      ∷ 0x40 ∷ 1 ∷ 3 ∷ 0 ∷ 1 ∷ 1 ∷ 0 ∷ replicate 128 0 ++ (0x01 ∷ 0xf4 ∷ []);
  verdict = failed 65;
  figures = sixteen (499 ∷ 563 ∷ []);
  offers = [];
  slots = [];
}

abbrev pub table : List Row
table = K1 ∷ K2 ∷ K3 ∷ K4 ∷ K5 ∷ K6 ∷ K7 ∷ K8 ∷ []

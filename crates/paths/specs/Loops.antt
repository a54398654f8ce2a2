-- What loops over a lent work list need to be the judgement: equations on what is left. Assumes nothing.
--   Ready: no instruction waits twice, and each that waits has a row
--   Order: how one instruction hands on: its rows in the order given, the label's first where that stands first
--   WorkLoop: the loop that takes the top until none waits: what is left gives the whole, and falls
--   EntryLoop: the loop over the entries, one by one
--   LoopsFollowTheJudgement: the law, over all tables
use Rattle.std.specs.Prelude.{◌≡◌, ℕ, ◌+◌, ◌<◌, ◌≤◌, List, [], ◌∷◌, length, replicate, Some, None}
use Rattle.paths.specs.Lists.{In, Distinct}
use Rattle.paths.specs.Flows.{Hand, breaks, hands_on, Flow, Lawful}
use Rattle.paths.specs.Rows.{Rows, row_at}
use Rattle.paths.specs.Judging.{going, refused, then, hand, judge_one, weight, settle, enter, judge}
use Rattle.paths.specs.Invariants.{Cases}

pub record Ready {R : Type 0} (rows : Rows R) (work : List ℕ) : Type 0 where
  pub distinct : Distinct work
  pub rowed : (k : ℕ) → In k work → (r : R) × (row_at rows k ≡ Some r)

-- ready again, over as many rows
abbrev pub StillReady : {R : Type 0} → Rows R → Rows R → List ℕ → Type 0
StillReady rows rows' work' = Ready rows' work' × (length rows' ≡ length rows)

module _ {R F : Type 0} (ρ : Flow R F) where
  pub record Order : Type 0 where
    pub broken : (i : ℕ) (r : R) (f : F) (rows : Rows R) (work : List ℕ) → row_at rows i ≡ Some r → ρ.transfer i r ≡ breaks f
        → judge_one ρ i rows work ≡ refused f i
    pub none : (i : ℕ) (r : R) (rows : Rows R) (work : List ℕ) → row_at rows i ≡ Some r → ρ.transfer i r ≡ hands_on [] → judge_one ρ i rows work ≡ going rows work
    pub one : (i : ℕ) (r : R) (h : Hand R) (rows : Rows R) (work : List ℕ) → row_at rows i ≡ Some r → ρ.transfer i r ≡ hands_on (h ∷ [])
        → judge_one ρ i rows work ≡ hand ρ rows work h.0 h.1
    pub label_first : (i : ℕ) (r : R) (label next : Hand R) (rows : Rows R) (work : List ℕ) → row_at rows i ≡ Some r → ρ.transfer i r ≡ hands_on (label ∷ next ∷ [])
        → judge_one ρ i rows work ≡ then (hand ρ rows work label.0 label.1) (λ rows' work'. hand ρ rows' work' next.0 next.1)

  pub record WorkLoop : Type 0 where
    pub ended : (rows : Rows R) → settle ρ rows [] ≡ going rows []
    pub turn : (rows : Rows R) (i : ℕ) (work : List ℕ) → length rows ≡ ρ.size
        → settle ρ rows (i ∷ work) ≡ then (judge_one ρ i rows work) (λ rows' work'. settle ρ rows' work')
    -- the same by cases, as a loop's body meets them
    pub turn_on : (rows : Rows R) (i : ℕ) (work : List ℕ) (rows' : Rows R) (work' : List ℕ) → length rows ≡ ρ.size
        → judge_one ρ i rows work ≡ going rows' work' → settle ρ rows (i ∷ work) ≡ settle ρ rows' work'
    pub turn_out : (rows : Rows R) (i : ℕ) (work : List ℕ) (f : F) (j : ℕ) → length rows ≡ ρ.size
        → judge_one ρ i rows work ≡ refused f j → settle ρ rows (i ∷ work) ≡ refused f j
    -- the measure of the loop
    pub falls : (rows : Rows R) (i : ℕ) (work : List ℕ) (rows' : Rows R) (work' : List ℕ) → length rows ≡ ρ.size
        → judge_one ρ i rows work ≡ going rows' work' → weight ρ rows' + length work' < weight ρ rows + length (i ∷ work)
    pub empties : (rows : Rows R) (work : List ℕ) (rows' : Rows R) (work' : List ℕ) → length rows ≡ ρ.size → settle ρ rows work ≡ going rows' work' → work' ≡ []
    -- a work list of as many places as there are instructions is never too short; `Ready` lasts from hand to hand
    pub short : (rows : Rows R) (work : List ℕ) → Ready rows work → length work ≤ length rows
    pub room : (rows : Rows R) (work : List ℕ) (j : ℕ) → Ready rows work → j < length rows → row_at rows j ≡ None → length work < length rows
    pub starts : (rows : Rows R) (j : ℕ) (s : R) → j < length rows → Cases (StillReady rows) (λ f i. Unit {0}) (hand ρ rows [] j s)
    pub handed : (rows : Rows R) (work : List ℕ) (j : ℕ) (s : R) → j < length rows → Ready rows work → Cases (StillReady rows) (λ f i. Unit {0}) (hand ρ rows work j s)
    pub stays : (i : ℕ) (rows : Rows R) (work : List ℕ) → length rows ≡ ρ.size → Ready rows (i ∷ work) → Cases (StillReady rows) (λ f i. Unit {0}) (judge_one ρ i rows work)

  pub record EntryLoop : Type 0 where
    pub begins : judge ρ ≡ enter ρ ρ.entries (replicate ρ.size None)
    pub ended : (rows : Rows R) → enter ρ [] rows ≡ going rows []
    pub turn : (e : Hand R) (es : List (Hand R)) (rows : Rows R)
        → enter ρ (e ∷ es) rows ≡ then (hand ρ rows [] e.0 e.1) (λ rows' work'. then (settle ρ rows' work') (λ rows'' work''. enter ρ es rows''))
    pub turn_on : (e : Hand R) (es : List (Hand R)) (rows rows' : Rows R) (work' : List ℕ) (rows'' : Rows R) (work'' : List ℕ)
        → hand ρ rows [] e.0 e.1 ≡ going rows' work' → settle ρ rows' work' ≡ going rows'' work'' → enter ρ (e ∷ es) rows ≡ enter ρ es rows''
    pub entry_out : (e : Hand R) (es : List (Hand R)) (rows : Rows R) (f : F) (i : ℕ)
        → hand ρ rows [] e.0 e.1 ≡ refused f i → enter ρ (e ∷ es) rows ≡ refused f i
    pub path_out : (e : Hand R) (es : List (Hand R)) (rows rows' : Rows R) (work' : List ℕ) (f : F) (i : ℕ)
        → hand ρ rows [] e.0 e.1 ≡ going rows' work' → settle ρ rows' work' ≡ refused f i → enter ρ (e ∷ es) rows ≡ refused f i

-- a clause is a `Type 0`, so the kind of row is fixed here
abbrev pub LoopsFollowTheJudgement : Type 0
LoopsFollowTheJudgement = (ρ : Flow (List ℕ) ℕ) → Lawful ρ → Order ρ × WorkLoop ρ × EntryLoop ρ

-- The same in words: what it means that an applicant is changed, and that a pool is touched.
use Rattle.std.specs.Prelude.{◌≡◌, ◌≢◌, ◌⊎◌, ℕ, ◌<◌, true, List, length, map, Some}
use Rattle.sl_types.specs.declared.kinds.Entry.{Entry}
use Rattle.sl_types.specs.declared.kinds.Rule.{Rule}
use Rattle.sl_types.specs.declared.kinds.Rule.TheVariants.{H, L, Merit}
use Rattle.sl_types.specs.Market.{Market, quota_of, rule_of, list_of, lies_in}
use Rattle.sl_laws.specs.Stable.{HasChoiceIn}
use Rattle.sl_amend.specs.Amended.{Origins}

-- the programmes of a list, in order of place
abbrev pub progs_of : List Entry → List ℕ
progs_of choices = map (λ e. e.prog.0) choices

-- its scores
abbrev pub scores_of : List Entry → List ℕ
scores_of choices = map (λ e. e.score) choices

-- programmes and scores in order are the same
abbrev pub AreSameChoices : List Entry → List Entry → Type 0
AreSameChoices es fs = (progs_of es ≡ progs_of fs) × (scores_of es ≡ scores_of fs)

-- nobody in the amended market is a with the same choices: a is gone, or the choices differ
abbrev pub IsChanged : Market → Market → Origins → ℕ → Type 0
IsChanged old new was a =
    (b : ℕ) → b < length new.lists → was b ≡ Some a
    → AreSameChoices (list_of old a) (list_of new b) → ⊥

-- some choice is in P
abbrev pub HasSomeIn : Market → ℕ → List Entry → Type 0
HasSomeIn market P choices =
    (i : ℕ) × (i < length choices) × HasChoiceIn market P choices i

-- a new choice of the applicant a is in P
abbrev pub HasNewChoiceIn : Market → Origins → ℕ → ℕ → Type 0
HasNewChoiceIn new was P a =
    (b : ℕ) × (b < length new.lists) × (was b ≡ Some a) × HasSomeIn new P (list_of new b)

-- an old or a new choice of a changed applicant is in P
abbrev pub IsTouchedByChoice : Market → Market → Origins → ℕ → Type 0
IsTouchedByChoice old new was P =
    (a : ℕ) × (a < length old.lists) × IsChanged old new was a
    × (HasSomeIn old P (list_of old a) ⊎ HasNewChoiceIn new was P a)

-- Q is a pool of P's tree, and its quota differs
abbrev pub HasOtherQuota : Market → Market → ℕ → ℕ → Type 0
HasOtherQuota old new P Q =
    ((R : ℕ) × (lies_in old P R ≡ true) × (lies_in old Q R ≡ true))
    × (quota_of new Q ≢ quota_of old Q)

-- the quota of a score pool rose; a quota of the tree of a merit pool differs
abbrev pub IsTouchedByQuota : Rule → Market → Market → ℕ → Type 0
IsTouchedByQuota H old new P = quota_of old P < quota_of new P
IsTouchedByQuota L old new P = quota_of old P < quota_of new P
IsTouchedByQuota Merit old new P =
    (Q : ℕ) × (Q < length old.pools) × HasOtherQuota old new P Q

-- some choice or a quota touches P
abbrev pub IsTouched : Market → Market → Origins → ℕ → Type 0
IsTouched old new was P =
    IsTouchedByChoice old new was P ⊎ IsTouchedByQuota (rule_of old P) old new P

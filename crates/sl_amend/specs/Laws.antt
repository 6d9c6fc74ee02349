-- The laws of an amendment, as statements about an old market and an amended one.
use Rattle.std.specs.Prelude.{◌≡◌, ◌⊎◌, ◌↔◌, ℕ, Bool, true, cond, List, [], ◌∷◌}
use Rattle.sl_types.specs.declared.kinds.Entry.{Entry}
use Rattle.sl_types.specs.declared.kinds.Raise.{Raise}
use Rattle.sl_types.specs.Market.{Market}
use Rattle.sl_laws.specs.Raises.{Replays, limits_after}
use Rattle.sl_amend.specs.Amended.{Origins, IsAmended, are_same_choices, is_changed, is_touched}
use Rattle.sl_amend.specs.Words.{AreSameChoices, IsChanged, IsTouched}
use Rattle.sl_amend.specs.Cone.{IsCone, is_in_cone, kept_raises}

-- the test of choices says what the words say
abbrev pub SameSays : Type 0
SameSays = (es fs : List Entry) → (are_same_choices es fs ≡ true) ↔ AreSameChoices es fs

-- so does the test of applicants
abbrev pub ChangedSays : Market → Market → Type 0
ChangedSays old new =
    (was : Origins) (a : ℕ) → (is_changed old new was a ≡ true) ↔ IsChanged old new was a

-- so does the test of pools
abbrev pub TouchedSays : Market → Market → Type 0
TouchedSays old new =
    (was : Origins) (P : ℕ) → (is_touched old new was P ≡ true) ↔ IsTouched old new was P

-- the cone is the least set that holds the touched pools and is closed under feeding
abbrev pub ConeIsLeast : Market → Market → Type 0
ConeIsLeast old new =
    IsAmended old new → (was : Origins) → IsCone old new was (is_in_cone old new was)

-- there is one such set
abbrev pub ConeIsOne : Market → Market → Type 0
ConeIsOne old new =
    (was : Origins) (S T : ℕ → Bool) → IsCone old new was S → IsCone old new was T
    → (P : ℕ) → S P ≡ T P

-- what replays on the old market replays on the amended one without the raises in the cone
abbrev pub KeptReplays : Market → Market → Type 0
KeptReplays old new =
    IsAmended old new → (was : Origins) (c : List Raise)
    → Replays old c → Replays new (kept_raises old new was c)

-- a list without some of its raises, in order
abbrev pub IsSublist : List Raise → List Raise → Type 0
IsSublist kept [] = kept ≡ []
IsSublist kept (r ∷ c) =
    IsSublist kept c ⊎ ((rest : List Raise) × (kept ≡ r ∷ rest) × IsSublist rest c)

-- the kept raises are a sublist, and reach the list's limits outside the cone and 0 in it
pub record IsKept (old new : Market) (was : Origins) (c kept : List Raise) : Type 0 where
  pub sublist : IsSublist kept c
  pub outside : (P : ℕ) → limits_after kept P ≡ cond (is_in_cone old new was P) 0 (limits_after c P)

-- so it is of each list of raises
abbrev pub KeptReaches : Market → Market → Type 0
KeptReaches old new =
    (was : Origins) (c : List Raise) → IsKept old new was c (kept_raises old new was c)

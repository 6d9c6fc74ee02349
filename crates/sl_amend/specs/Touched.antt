-- What the flags of the touched pools are made of.
use Rattle.std.specs.Prelude.{◌≡◌, ℕ, ◌<◌, Bool, false, not, ◌&&◌, ◌||◌, List, [], ◌∷◌}
use Rattle.std.specs.Prelude.{length, nat_eq, Option, Some, None}
use Rattle.std.specs.List.{list_any}
use Rattle.sl_types.specs.Market.{Market, list_of, rule_of, chain_of, pool_numbers}
use Rattle.sl_types.specs.Valid.{applicant_numbers}
use Rattle.sl_contend.specs.Contention.{has_choice_in}
use Rattle.sl_amend.specs.Amended.{Origins, is_still, has_other_quota}
use Rattle.sl_amend.specs.Amended.{is_touched_by_quota, is_touched}
use Rattle.sl_amend.specs.Cone.{is_in_cone}
use Rattle.sl_amend.specs.Flags.{is_flagged}

-- the flags below n are up where they were, or where a test passes
abbrev pub IsFlaggedBy : (ℕ → Bool) → ℕ → List Bool → List Bool → Type 0
IsFlaggedBy p n flags later =
    (P : ℕ) → P < n → is_flagged later P ≡ (is_flagged flags P || p P)

-- whether an old applicant isn't there still
abbrev pub is_off : List Bool → ℕ → Bool
is_off still a = not (is_flagged still a)

-- whether there is an origin, and it isn't there still
abbrev pub has_off : List Bool → Option ℕ → Bool
has_off still None = false
has_off still (Some a) = is_off still a

-- whether an applicant of the old market who isn't there still has an old choice in P
abbrev pub is_off_before : Market → List Bool → ℕ → ℕ → Bool
is_off_before old still P a = is_off still a && has_choice_in old (list_of old a) P

-- whether an applicant of the amended market whose origin isn't there still has a choice in P
abbrev pub is_off_after : Market → Origins → List Bool → ℕ → ℕ → Bool
is_off_after new was still P b = has_off still (was b) && has_choice_in new (list_of new b) P

-- whether an applicant of the old market is there still, with the same choices
abbrev pub is_there_still : Market → Market → Origins → ℕ → Bool
is_there_still old new was a = list_any (is_still old new was a) (applicant_numbers new)

-- whether an old choice of somebody who isn't there still is in P
abbrev pub is_left_by_some : Market → List Bool → ℕ → Bool
is_left_by_some old still P = list_any (is_off_before old still P) (applicant_numbers old)

-- whether a new choice of somebody whose origin isn't there still is in P
abbrev pub is_joined_by_some : Market → Origins → List Bool → ℕ → Bool
is_joined_by_some new was still P = list_any (is_off_after new was still P) (applicant_numbers new)

-- the last of a pool and a list of pools
abbrev pub last_from : ℕ → List ℕ → ℕ
last_from P [] = P
last_from P (Q ∷ Qs) = last_from Q Qs

-- the outermost pool round P, or P itself
abbrev pub outermost_of : Market → ℕ → ℕ
outermost_of market P = last_from P (chain_of market P)

-- whether R is the outermost pool round Q, and Q's quota differs
abbrev pub differs_under : Market → Market → ℕ → ℕ → Bool
differs_under old new R Q = nat_eq (outermost_of old Q) R && has_other_quota old new Q

-- whether the quota of a pool differs that has R as its outermost
abbrev pub is_other_tree : Market → Market → ℕ → Bool
is_other_tree old new R = list_any (differs_under old new R) (pool_numbers old)

-- just the outermost pools of the trees in which a quota differs are marked
abbrev pub AreOtherTrees : Market → Market → List Bool → Type 0
AreOtherTrees old new marks =
    (R : ℕ) → R < length old.pools → is_flagged marks R ≡ is_other_tree old new R

-- whether quotas touch P, by its rule
abbrev pub touched_by_quota : Market → Market → ℕ → Bool
touched_by_quota old new P = is_touched_by_quota (rule_of old P) old new P

-- the flags say of each old applicant whether they are there still, with the same choices
abbrev pub AreStill : Market → Market → Origins → List Bool → Type 0
AreStill old new was still =
    (a : ℕ) → a < length old.lists → is_flagged still a ≡ is_there_still old new was a

-- the touched pools were flagged
abbrev pub HasTouched : Market → Market → Origins → List Bool → List Bool → Type 0
HasTouched old new was flags later =
    IsFlaggedBy (is_touched old new was) (length old.pools) flags later

-- just the pools of the cone are flagged
abbrev pub AreCone : Market → Market → Origins → List Bool → Type 0
AreCone old new was flags = (P : ℕ) → is_flagged flags P ≡ is_in_cone old new was P

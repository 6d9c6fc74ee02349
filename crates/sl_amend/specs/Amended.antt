-- An amended market beside the old one: which applicants are changed, and which pools this touches.
use Rattle.std.specs.Prelude.{◌≡◌, ℕ, ◌<◌, Bool, true, false, ◌&&◌, ◌||◌, not, List, [], ◌∷◌}
use Rattle.std.specs.Prelude.{length, get_or, nat_eq, nat_lt, Option, Some, None, All, IfSome, option_map}
use Rattle.std.specs.List.{list_any}
use Rattle.sl_types.specs.declared.kinds.AppId.{AppId}
use Rattle.sl_types.specs.declared.kinds.Entry.{Entry}
use Rattle.sl_types.specs.declared.kinds.Rule.{Rule}
use Rattle.sl_types.specs.declared.kinds.Rule.TheVariants.{H, L, Merit}
use Rattle.sl_types.specs.Market.{Market, quota_of, rule_of, parent_of, list_of}
use Rattle.sl_types.specs.Market.{chain_of, lies_in, pool_numbers}
use Rattle.sl_types.specs.Valid.{applicant_numbers}
use Rattle.sl_contend.specs.Contention.{has_choice_in}

-- for each applicant of the amended market which one of the old they are, or none for a new one
abbrev pub Origins : Type 0
Origins = ℕ → Option ℕ

-- the origins that a list gives
abbrev pub origins_of : List (Option AppId) → Origins
origins_of origins b = option_map (λ a. a.0) (get_or origins b None)

-- each origin is an applicant of the old market
abbrev pub AreOrigins : Market → List (Option AppId) → Type 0
AreOrigins old origins = All (λ o. IfSome o (λ a. a.0 < length old.lists)) origins

-- pools, parents, rules and programmes are the old ones; quotas, applicants and lists may differ
pub record IsAmended (old new : Market) : Type 0 where
  pub progs : new.progs ≡ old.progs
  pub each : length new.pools ≡ length old.pools
  pub parents : (P : ℕ) → P < length old.pools → parent_of new P ≡ parent_of old P
  pub rules : (P : ℕ) → P < length old.pools → rule_of new P ≡ rule_of old P

-- whether an origin is the old applicant a
abbrev pub is_origin : Option ℕ → ℕ → Bool
is_origin None a = false
is_origin (Some b) a = nat_eq b a

-- one programme with one score, at whatever places
abbrev pub is_same_choice : Entry → Entry → Bool
is_same_choice e f = nat_eq e.prog.0 f.prog.0 && nat_eq e.score f.score

-- the same programmes with the same scores in the same order
abbrev pub are_same_choices : List Entry → List Entry → Bool
are_same_choices [] [] = true
are_same_choices [] (f ∷ fs) = false
are_same_choices (e ∷ es) [] = false
are_same_choices (e ∷ es) (f ∷ fs) = is_same_choice e f && are_same_choices es fs

-- whether the applicant b of the amended market is a of the old one, with the same choices
abbrev pub is_still : Market → Market → Origins → ℕ → ℕ → Bool
is_still old new was a b = is_origin (was b) a && are_same_choices (list_of old a) (list_of new b)

-- whether an applicant of the old market is changed: gone, or with other programmes or scores
abbrev pub is_changed : Market → Market → Origins → ℕ → Bool
is_changed old new was a = not (list_any (is_still old new was a) (applicant_numbers new))

-- whether the applicant b of the amended market is a of the old one, and has a choice in P
abbrev pub applies_now : Market → Origins → ℕ → ℕ → ℕ → Bool
applies_now new was P a b = is_origin (was b) a && has_choice_in new (list_of new b) P

-- whether an applicant of the old market has a choice in P, by the old list or by the new one
abbrev pub applies_in_either : Market → Market → Origins → ℕ → ℕ → Bool
applies_in_either old new was P a =
    has_choice_in old (list_of old a) P || list_any (applies_now new was P a) (applicant_numbers new)

-- whether an old or a new choice of a changed applicant is in P
abbrev pub is_touched_by_choice : Market → Market → Origins → ℕ → Bool
is_touched_by_choice old new was P =
    list_any (λ a. is_changed old new was a && applies_in_either old new was P a)
    (applicant_numbers old)

-- whether some pool has both P and Q inside it, or is one of them
abbrev pub are_in_one_tree : Market → ℕ → ℕ → Bool
are_in_one_tree market P Q = list_any (λ R. lies_in market Q R) (chain_of market P)

-- whether the quota of Q differs
abbrev pub has_other_quota : Market → Market → ℕ → Bool
has_other_quota old new Q = not (nat_eq (quota_of new Q) (quota_of old Q))

-- a score pool is touched where its quota rose, a merit pool where a quota of its tree differs
abbrev pub is_touched_by_quota : Rule → Market → Market → ℕ → Bool
is_touched_by_quota H old new P = nat_lt (quota_of old P) (quota_of new P)
is_touched_by_quota L old new P = nat_lt (quota_of old P) (quota_of new P)
is_touched_by_quota Merit old new P =
    list_any (λ Q. are_in_one_tree old P Q && has_other_quota old new Q) (pool_numbers old)

-- whether P is touched
abbrev pub is_touched : Market → Market → Origins → ℕ → Bool
is_touched old new was P =
    is_touched_by_choice old new was P || is_touched_by_quota (rule_of old P) old new P

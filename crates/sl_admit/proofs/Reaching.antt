-- Choices that reach the published limits are the eligible ones.
use Rattle.std.proofs.Common.{◌≡◌, ◌<◌, ◌∙◌, ℕ, Bool, List, [], ◌∷◌, length, map, nat_le, All, slice_index, refl, ap, arith}
use Rattle.std.specs.List.{position_or_len}
use Rattle.std.proofs.lemmas.List.Elements.{All-head, All-tail, All-weaker}
use Rattle.std.proofs.lemmas.List.FromFn.{get_or-map-range_with_len}
use Rattle.sl_types.specs.declared.kinds.Entry.{Entry}
use Rattle.sl_types.specs.Market.{Market, pool_of}
use Rattle.sl_types.specs.WellFormed.{IsWellFormed}
use Rattle.sl_laws.specs.Limits.{Limits, effective_limit, is_eligible}
use Rattle.sl_laws.specs.Outcome.{admitted_indexes}
use Rattle.sl_admit.specs.Admitting.{published_limits, reaches}
use Rattle.sl_admit.proofs.Applicants.{same_map}

-- tests that agree on a list pass the same first
same_first : (p q : Entry → Bool) (es : List Entry) → All (λ e. p e ≡ q e) es → position_or_len p es ≡ position_or_len q es
same_first p q [] all = refl
same_first p q (e ∷ es) all = rw (All-head (λ e. p e ≡ q e) e es all, same_first p q es (All-tail (λ e. p e ≡ q e) e es all)) refl

module _ (market : Market) (ok : IsWellFormed market) (t : Limits) (published : List ℕ) (is : published ≡ published_limits market t) where
  reaching_is_eligible : (e : Entry) → pool_of market e < length market.pools → reaches market (slice_index published) e ≡ is_eligible market t e
  reaching_is_eligible e within =
      ap (λ y. nat_le y e.score)
      (ap (λ xs. slice_index xs (pool_of market e)) is ∙ get_or-map-range_with_len (effective_limit market t) 0 (length market.pools) (pool_of market e) (pool_of market e) 0 within (omega arith))

  -- the first choices that reach the published limits are the admitted ones
  pub first_reaching : map (λ choices. position_or_len (reaches market (slice_index published)) choices) market.lists ≡ admitted_indexes market t
  first_reaching =
      same_map (λ choices. position_or_len (reaches market (slice_index published)) choices) (λ choices. position_or_len (is_eligible market t) choices) market.lists
      (All-weaker (λ choices. All (λ e. pool_of market e < length market.pools) choices) (λ choices. position_or_len (reaches market (slice_index published)) choices ≡ position_or_len (is_eligible market t) choices)
      (λ choices within. same_first (reaches market (slice_index published)) (is_eligible market t) choices (All-weaker (λ e. pool_of market e < length market.pools) (λ e. reaches market (slice_index published) e ≡ is_eligible market t e) reaching_is_eligible choices within))
      market.lists ok.choices)

-- No stable limits admit anybody earlier than the least.
use Rattle.std.proofs.Common.{◌≡◌, ℕ, ◌≤◌, Bool, true, false, List, [], ◌∷◌, get_or, All, arith, inl, inr, sym, ◌∙◌, leb-true, le-leb}
use Rattle.std.proofs.lemmas.Bool.{cases_Bool}
use Rattle.std.proofs.lemmas.List.Elements.{All-head, All-tail}
use Rattle.std.specs.List.{position_or_len}
use Rattle.sl_types.specs.declared.kinds.Entry.{Entry}
use Rattle.sl_types.specs.Market.{Market, pool_of, list_of}
use Rattle.sl_types.specs.WellFormed.{IsWellFormed}
use Rattle.sl_laws.specs.Limits.{effective_limit, is_eligible}
use Rattle.sl_laws.specs.Laws.{NoneEarlier}

first_sooner : (p q : Entry → Bool) (es : List Entry) → All (λ e. q e ≡ true → p e ≡ true) es → position_or_len p es ≤ position_or_len q es
first_sooner p q [] all = omega arith
first_sooner p q (e ∷ es) all =
    let rest = first_sooner p q es (All-tail (λ e. q e ≡ true → p e ≡ true) e es all) in
    elim (cases_Bool (p e)) [
      | inl hit ↦ rw hit (omega arith)
      | inr miss ↦ elim (cases_Bool (q e)) [
        | inl wrong ↦ let also = All-head (λ e. q e ≡ true → p e ≡ true) e es all wrong in let k : true ≡ false = sym also ∙ miss in cc
        | inr never ↦ rw (miss, never) (omega (arith, rest))
      ]
    ]

-- each choice that is eligible at a stable vector is eligible at the least
pub none_earlier : (market : Market) → IsWellFormed market → NoneEarlier market
none_earlier market ok l m least stable a a_in =
    first_sooner (is_eligible market l) (is_eligible market m) (list_of market a) (λ k d k_in h.
    let e : Entry = get_or (list_of market a) k d in
    let C : ℕ = pool_of market e in
    let C_in = ok.choices a [] a_in k d k_in in
    let was = leb-true (effective_limit market m C) e.score h in
    let b = (stable C C_in).0 in
    let c = (least.0 C C_in).0 in
    let f = least.1 m stable C C_in in
    le-leb (effective_limit market l C) e.score (omega (arith, was, b, c, f)))

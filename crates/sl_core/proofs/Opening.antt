-- What a new machine has is the start.
use Rattle.std.proofs.Common.{◌≡◌, ℕ, zero, suc, ◌+◌, ◌-◌, ◌≤◌, Bool, true, List, [], ◌∷◌, ◌++◌, length, replicate, sym, ◌∙◌, ap, subst, arith}
use Rattle.std.proofs.lemmas.List.{replicate-append-replicate}
use lib.ListN.{length-replicate}
use Rattle.sl_types.specs.Market.{Market}
use Rattle.sl_core.specs.State.{Actor, State, unread_actor, words_after, start}
use Rattle.sl_core.specs.Parts.{HasParts}
use Rattle.sl_core.proofs.Actors.{replicate_same}
use Rattle.sl_core.proofs.Filling.{same_by_each}
use Rattle.sl_core.proofs.Starts.{word_is, words_long, starts_with}

pub replicate_more : {A : Type 0} (n : ℕ) (x : A) → replicate n x ++ x ∷ [] ≡ replicate (n + 1) x
replicate_more n x = replicate-append-replicate n 1 x

-- nothing is reached by no raise
no_words : (market : Market) → words_after market [] ≡ replicate (length market.pools) 0
no_words market = same_by_each (words_after market []) (replicate (length market.pools) 0) 0 (words_long market [] ∙ sym (length-replicate (length market.pools) 0))
    (λ k h. word_is market [] k (let n = words_long market [] in omega (arith, h, n)) ∙ sym (replicate_same (length market.pools) k 0))

abbrev pub opened : ℕ → ℕ → State
opened pools actors = record { limits = replicate pools 0; flags = replicate pools true; ticket = 0; actors = replicate actors (unread_actor pools) }

one_less : {A : Type 0} (n : ℕ) (x : A) → 1 ≤ n → replicate n x ≡ x ∷ replicate (n - 1) x
one_less zero x some = absurd (omega (arith, some))
one_less (suc n) x some = let less : n ≡ suc n - 1 = omega arith in ap (λ (m : ℕ). x ∷ replicate m x) less

pub opened_is : (market : Market) (pools actors : ℕ) → pools ≡ length market.pools → 1 ≤ actors → opened pools actors ≡ start market [] (actors - 1)
opened_is market pools actors is some =
    let words = no_words market in
    let less = one_less actors (unread_actor (length market.pools)) some in
    let same : opened (length market.pools) actors ≡ start market [] (actors - 1) = cc in
    ap (λ (n : ℕ). opened n actors) is ∙ same

pub opened_fits : (market : Market) (pools actors : ℕ) → pools ≡ length market.pools → 1 ≤ actors → HasParts market [] (opened pools actors)
opened_fits market pools actors is some = subst (HasParts market []) (sym (opened_is market pools actors is some)) (starts_with market [] (actors - 1) tt)

-- the fields of a new machine
module _ (market : Market) (pools actors : ℕ) (limits : List ℕ) (flags : List Bool) (workers : List Actor) (is : pools ≡ length market.pools) (some : 1 ≤ actors)
    (no_limits : limits ≡ replicate pools 0) (all_up : flags ≡ replicate pools true) (idle : workers ≡ replicate actors (unread_actor pools)) where
  abbrev fields : State
  fields = record { limits = limits; flags = flags; ticket = 0; actors = workers }

  fields_are : fields ≡ opened pools actors
  fields_are = cc

  pub fields_fit : HasParts market [] fields
  fields_fit = subst (HasParts market []) (sym fields_are) (opened_fits market pools actors is some)

  pub fields_start : fields ≡ start market [] (actors - 1)
  fields_start = fields_are ∙ opened_is market pools actors is some

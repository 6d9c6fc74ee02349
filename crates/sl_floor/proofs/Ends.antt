-- Seats that are split and joined keep the rule, and what the end tells of the one seat that is left.
use Rattle.std.proofs.Common.{◌≡◌, ◌≢◌, ℕ, ◌+◌, ◌<◌, ◌≤◌, Bool, true, List, [], ◌∷◌, ◌++◌, length, map, set, refl, sym, ap, ◌∙◌, inl, inr, arith}
use Rattle.std.proofs.lemmas.List.{set-get_or}
use Rattle.std.proofs.lemmas.List.Elements.{All-set, All-push}
use Rattle.std.proofs.lemmas.List.Sums.{sum_by-append, sum_by-cons}
use mathlib.Core.Option.{some}
use lib.ListN.{get_elem?}
use lib.Seq.{map-set}
use Rattle.atomic_table.specs.Table.{Splits, Joins}
use Rattle.atomic_table.proofs.Lists.{set_else}
use Rattle.sl_types.specs.declared.kinds.Raise.{Raise}
use Rattle.sl_types.specs.Market.{Market}
use Rattle.sl_core.specs.State.{Actor, State, nobody, actor_at, is_idle}
use Rattle.sl_core.specs.Dividing.{spent_actor, actor_divided_off, actor_of_both}
use Rattle.sl_core.proofs.Divides.{divides_keep}
use Rattle.sl_core.proofs.Unites.{unites_keep}
use Rattle.sl_floor.specs.Floor.{Sitting, stay_view, go_view, both_view, spent_view}
use Rattle.sl_floor.specs.Rule.{Table, actor_in, state_of, IsSeatOf, IsFloored}
use Rattle.sl_floor.proofs.Words.{map_get, map_within, sum_set, seated_is, kept_low}
use Rattle.sl_floor.proofs.Told.{parts_by, holder}

pub map_length : {A B : Type 0} (f : A → B) (xs : List A) → length (map f xs) ≡ length xs
map_length f [] = refl
map_length f (x ∷ xs) = let rest = map_length f xs in omega (arith, rest)

map_snoc : {A B : Type 0} (f : A → B) (xs : List A) (x : A) → map f (xs ++ x ∷ []) ≡ map f xs ++ f x ∷ []
map_snoc f [] x = refl
map_snoc f (y ∷ ys) x = ap (λ l. f y ∷ l) (map_snoc f ys x)

module _ (market : Market) (kept : List Raise) (id : ℕ) (v : Sitting) (same : v.market ≡ market) (some_share : 0 < v.share) (s : Table) (r : IsFloored market kept s) (at : get_elem? s.views id ≡ some v) where
  abbrev pub core : State
  core = state_of market s.words s.views

  pub here : actor_at core id ≡ v.actor
  here = map_get (actor_in market) s.views id v nobody at ∙ seated_is market v.share v.actor some_share

  pub inside : id < length core.actors
  inside = map_within (actor_in market) s.views id v at

  actors_are : (w : Sitting) → 0 < w.share → map (actor_in market) (set s.views id w) ≡ set core.actors id w.actor
  actors_are w share = map-set (actor_in market) s.views id w ∙ ap (set core.actors id) (seated_is market w.share w.actor share)

-- a seat that is split
pub splits : (market : Market) (kept : List Raise) (id : ℕ) (v : Sitting) (bare : Bool) → v.market ≡ market → 2 ≤ v.share → Splits (IsFloored market kept) id v (stay_view v) (go_view bare v)
splits market kept id v bare same two s r at =
    let some_share : 0 < v.share = omega (arith, two) in
    let l = stay_view v in let w = go_view bare v in
    let c : State = core market kept id v same some_share s r at in
    let me = here market kept id v same some_share s r at in
    let stays : map (actor_in market) (set s.views id l) ≡ c.actors =
    actors_are market kept id v same some_share s r at l (omega (arith, two)) ∙ (ap (set c.actors id) (sym me) ∙ set-get_or c.actors id nobody) in
    let goes : actor_in market w ≡ actor_divided_off market (actor_at c id) bare =
    seated_is market w.share w.actor (omega (arith, two)) ∙ (ap (λ (m : Market). actor_divided_off m v.actor bare) same ∙ ap (λ (a : Actor). actor_divided_off market a bare) (sym me)) in
    let actors = map_snoc (actor_in market) (set s.views id l) w ∙ (ap (λ as'. as' ++ actor_in market w ∷ []) stays ∙ ap (λ a. c.actors ++ a ∷ []) goes) in
    let holds = holder market kept id v some_share same s r at in
    record {
      valid = r.valid;
      few = r.few;
      wide = r.wide;
      seats = All-push (IsSeatOf market kept) (set s.views id l) w
          (All-set (IsSeatOf market kept) s.views id l (inl (record { share = omega (arith, two); instance = holds.instance; raises = holds.raises })) r.seats)
          (inl (record { share = omega (arith, two); instance = holds.instance; raises = holds.raises }));
      parts = parts_by market kept s.words (set s.views id l ++ w ∷ []) _ refl refl refl actors (divides_keep market kept c id bare r.parts (inside market kept id v same some_share s r at));
      shares =
          let one = sum_set (λ u. u.share) s.views id v l at in let both = sum_by-append (λ (u : Sitting). u.share) (set s.views id l) (w ∷ []) in let last = sum_by-cons (λ (u : Sitting). u.share) w [] in
          let all = r.shares in omega (arith, one, both, last, all);
      tickets =
          let one = sum_set (λ u. u.allowance) s.views id v l at in let both = sum_by-append (λ (u : Sitting). u.allowance) (set s.views id l) (w ∷ []) in let last = sum_by-cons (λ (u : Sitting). u.allowance) w [] in
          let all = r.tickets in omega (arith, one, both, last, all);
    }

-- a seat that takes in another
pub joins : (market : Market) (kept : List Raise) (id other : ℕ) (v w : Sitting) → v.market ≡ market → w.market ≡ market → 0 < v.share → 0 < w.share → is_idle v.actor.phase ≡ true → is_idle w.actor.phase ≡ true
    → Joins (IsFloored market kept) id v other w (both_view v w) spent_view
joins market kept id other v w same also some_share its_share idle its_idle s r at ne at' =
    let u = both_view v w in
    let was : get_elem? s.views other ≡ some w = sym (set_else s.views id other u ne) ∙ at' in
    let c : State = core market kept id v same some_share s r at in
    let me = here market kept id v same some_share s r at in
    let it = here market kept other w also its_share s r was in
    let two : id ≢ other = λ e. ne (sym e) in
    let rest : get_elem? (set s.views id spent_view) other ≡ some w = set_else s.views id other spent_view ne ∙ was in
    let shares : u.share ≡ v.share + w.share =
    let one = sum_set (λ x. x.share) s.views id v spent_view at in let more = sum_set (λ x. x.share) (set s.views id spent_view) other w spent_view rest in
    let all = r.shares in omega (arith, one, more, all) in
    let allowances : u.allowance ≡ v.allowance + w.allowance =
    let one = sum_set (λ x. x.allowance) s.views id v spent_view at in let more = sum_set (λ x. x.allowance) (set s.views id spent_view) other w spent_view rest in
    let all = r.tickets in let low = kept_low market kept c r.parts in omega (arith, one, more, all, low) in
    let holds = holder market kept id v some_share same s r at in
    let first : map (actor_in market) (set s.views id u) ≡ set c.actors id (actor_of_both (actor_at c id) (actor_at c other)) =
    actors_are market kept id v same some_share s r at u (omega (arith, some_share, shares)) ∙ ap (set c.actors id) (ap (λ (a : Actor). actor_of_both a w.actor) (sym me) ∙ ap (actor_of_both (actor_at c id)) (sym it)) in
    let actors = map-set (actor_in market) (set s.views id u) other spent_view ∙ ap (λ as'. set as' other (spent_actor market)) first in
    record {
      valid = r.valid;
      few = r.few;
      wide = r.wide;
      seats = All-set (IsSeatOf market kept) (set s.views id u) other spent_view (inr refl)
          (All-set (IsSeatOf market kept) s.views id u (inl (record { share = omega (arith, shares, some_share); instance = holds.instance; raises = holds.raises })) r.seats);
      parts = parts_by market kept s.words (set (set s.views id u) other spent_view) _ refl refl refl actors
          (unites_keep market kept c id other r.parts (inside market kept id v same some_share s r at) (inside market kept other w also its_share s r was) two
          (ap (λ (a : Actor). is_idle a.phase) me ∙ idle) (ap (λ (a : Actor). is_idle a.phase) it ∙ its_idle));
      shares = let one = sum_set (λ x. x.share) s.views id v u at in let more = sum_set (λ x. x.share) (set s.views id u) other w spent_view at' in let all = r.shares in omega (arith, one, more, all, shares);
      tickets = let one = sum_set (λ x. x.allowance) s.views id v u at in let more = sum_set (λ x. x.allowance) (set s.views id u) other w spent_view at' in let all = r.tickets in omega (arith, one, more, all, allowances);
    }

use Rattle.std.proofs.Common.{◌≡◌, ◌∙◌, ℕ, List, All, slice_index, ap, sym, subst, arith}
use Rattle.sl_types.specs.declared.kinds.Raise.{Raise}
use Rattle.sl_types.specs.declared.kinds.Logged.{Logged}
use Rattle.sl_types.specs.Market.{Market}
use Rattle.sl_laws.specs.Limits.{effective_limit}
use Rattle.sl_laws.specs.Raises.{Proves, IsSound, without_void}
use Rattle.sl_laws.proofs.AllRules.{proves_the_least}
use Rattle.sl_core.specs.Parts.{BeginsWith}
use Rattle.sl_floor.specs.Ending.{IsOrdered}
use Rattle.sl_team.proofs.Merged.{gathered_within, merged_is, begins, proves_same}
use Rattle.sl_team.specs.Clearing.{IsAtMost}
use Rattle.sl_team.proofs.Watched.{seen_at_most}
use Rattle.sl_team.proofs.closing.finish.Goals as goal

pub merge-requires-clause-within : goal.merge-requires-clause-within
merge-requires-clause-within c =
    let told = c.in_ok-words.ensures in
    let o = told.ordered in
    let sound : IsSound c.args.instance.now o.raises = subst (λ (m : Market). IsSound m o.raises) (told.receipt.market_is ∙ c.requires.floor.0) o.sound in
    gathered_within c.args.instance.now o.raises c.args.kept.now c.args.seat.view.actor.log c.args.gathered.items sound (subst (λ (l : List Logged). IsOrdered l o.raises) told.log o.ordered) c.requires.log

pub returns-clause-logged : goal.returns-clause-logged
returns-clause-logged c = λ d ordered.
    let log = c.args.seat.view.actor.log in
    merged_is c.args.instance.now d c.args.kept.now c.in_ok-raises.raises.items log c.args.gathered.items (subst (λ (l : List Logged). IsOrdered l d) c.in_ok-words.ensures.log ordered) c.requires.log c.in_ok-raises.ensures

pub returns-clause-proves : goal.returns-clause-proves
returns-clause-proves c =
    let market = c.args.instance.now in
    let told = c.in_ok-words.ensures in
    let o = told.ordered in
    let words = c.in_ok-words.words.items in
    let limits = c.in_ok-limits.limits.items in
    let market_is = told.receipt.market_is ∙ c.requires.floor.0 in
    let proves : Proves market (without_void market o.raises) (effective_limit market (slice_index c.in_ok-words.receipt.words)) =
    subst (λ (m : Market). Proves m (without_void m o.raises) (effective_limit m (slice_index c.in_ok-words.receipt.words))) market_is (told.proves c.requires.quiet o.raises o.ordered) in
    let merged = returns-clause-logged c o.raises o.ordered in
    let words_are : c.deref.result.now ≡ c.in_ok-words.receipt.words = c.deref.ensures.value ∙ told.words in
    let long = c.in_ok-limits.ensures.each in
    subst (λ (l : List Raise). Proves market l (slice_index limits)) (sym merged)
    (proves_same market (without_void market o.raises) (effective_limit market (slice_index c.in_ok-words.receipt.words)) (slice_index limits) proves
    (λ P h. c.in_ok-limits.ensures.published P (omega (arith, h, long)) ∙ ap (λ (l : List ℕ). effective_limit market (slice_index l) P) words_are))

pub returns-clause-begins : goal.returns-clause-begins
returns-clause-begins c =
    let market = c.args.instance.now in
    let told = c.in_ok-words.ensures in
    let o = told.ordered in
    let front : BeginsWith c.args.kept.now o.raises = subst (λ (k : List Raise). BeginsWith k o.raises) (told.receipt.kept_is ∙ c.requires.floor.1) o.front in
    subst (BeginsWith c.args.kept.now) (sym (returns-clause-logged c o.raises o.ordered)) (begins market c.args.kept.now o.raises c.requires.kept front)

pub returns-clause-least : goal.returns-clause-least
returns-clause-least c = proves_the_least c.args.instance.now c.pools.ensures.well_formed c.in_ok-raises.raises.items (slice_index c.in_ok-limits.limits.items) (returns-clause-proves c)

pub returns-clause-low : goal.returns-clause-low
returns-clause-low c =
    let limits = c.in_ok-limits.limits.items in
    subst (All (IsAtMost limits)) (sym c.seen.view_is) (seen_at_most c.args.instance.now limits c.args.seen (returns-clause-least c).0 c.in_ok-limits.ensures.each c.requires.seen)

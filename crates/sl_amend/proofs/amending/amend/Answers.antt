use Rattle.std.proofs.Common.{◌≡◌, ◌∙◌, List, Option, ap, subst}
use Rattle.sl_types.specs.declared.kinds.AppId.{AppId}
use Rattle.sl_types.specs.Market.{Market}
use Rattle.sl_instance.specs.NamedMarket.{NamedMarket}
use Rattle.sl_amend.specs.Applied.{draft_after}
use Rattle.sl_amend.specs.Cone.{kept_by}
use Rattle.sl_amend.specs.DraftMarket.{opening, amended}
use Rattle.sl_amend.specs.Files.{IsLedTo}
use Rattle.sl_amend.specs.Origins.{origins_in}
use Rattle.sl_amend.proofs.amending.amend.Goals as goal

pub origins-requires : goal.origins-requires
origins-requires c = subst (λ (n : NamedMarket). IsLedTo n c.draft-draft.result.now) c.requires.named c.draft-draft.ensures.led

pub returns-clause-kept : goal.returns-clause-kept
returns-clause-kept c =
    let rows = c.args.rows.now.rows in
    let last = draft_after (opening c.args.named.now) rows in
    let draft : c.draft-draft.result.now ≡ last =
    c.draft-draft.ensures.draft ∙ ap (λ (n : NamedMarket). draft_after (opening n) rows) c.requires.named in
    let new : c.instance-2.result.now ≡ (amended last).market =
    c.instance-2.ensures.market ∙ ap (λ (n : NamedMarket). n.market) (c.in_ok-amended.ensures.amended ∙ ap amended draft) in
    let origins : c.deref.result.now ≡ origins_in last = c.deref.ensures.value ∙ c.in_ok-origins.ensures.origins ∙ ap origins_in draft in
    c.in_ok-kept.ensures.kept
    ∙ ap (λ (m : Market). kept_by m c.instance-2.result.now c.deref.result.now c.args.raises.now) c.instance.ensures.market
    ∙ ap (λ (m : Market). kept_by c.args.named.now.market m c.deref.result.now c.args.raises.now) new
    ∙ ap (λ (os : List (Option AppId)). kept_by c.args.named.now.market (amended last).market os c.args.raises.now) origins

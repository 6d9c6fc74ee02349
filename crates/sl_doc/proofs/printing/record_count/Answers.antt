use Rattle.std.proofs.Common.{◌≡◌, ◌∙◌, ap, arith, length}
use Rattle.sl_doc.proofs.Records.{content_length}
use Rattle.sl_doc.proofs.printing.record_count.Goals as goal

pub returns : goal.returns
returns c =
    let n = c.args.named.now in
    let doc = c.args.doc.now in
    let pools : c.pools.result ≡ length n.market.pools = c.pools.ensures.count ∙ ap (λ m. length m.pools) c.instance-instance.ensures.market in
    let lists : c.applicants.result ≡ length n.market.lists = c.applicants.ensures.count ∙ ap (λ m. length m.lists) c.instance-instance.ensures.market in
    let raises : c.len.result ≡ length doc.raises = (let same = ap (λ d. length d.raises) c.doc.view_is in omega (arith, c.len.ensures, c.doc.inside.raises.ok, same)) in
    let all = content_length n doc in
    omega (arith, pools, lists, raises, all)

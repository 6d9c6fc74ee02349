use Rattle.std.proofs.Common.{◌≡◌, ◌∙◌, sym, ap, set, length-set}
use Rattle.sl_types.specs.declared.kinds.Pool.{Pool}
use Rattle.sl_types.specs.Market.{no_pool}
use Rattle.sl_types.proofs.Lists.{get_or_inside}
use Rattle.sl_amend.proofs.Quotas.{shape, quota_shapes, nesting_same, trees_same, quotas_set}
use Rattle.sl_amend.proofs.register.Register.set_quota.Goals as goal

pub returns-clause-register : goal.returns-clause-register
returns-clause-register c =
    let h = c.requires.register in
    let pools = c.args.self.now.pools.items in
    let P = c.args.pool.0 in
    let d = c.index_mut.result.now in
    let pool : Pool = record { quota = c.args.quota; parent = d.parent; rule = d.rule } in
    let is : d ≡ _ = c.index_mut.ensures.value ∙ get_or_inside pools P d no_pool c.requires.fits.known in
    let shapes = quota_shapes pools P pool c.requires.fits.known (ap shape is) in
    let sizes = length-set pools P pool in
    record {
      each_pool = h.each_pool ∙ sym sizes;
      each_prog = h.each_prog;
      each_applicant = h.each_applicant;
      coded = h.coded;
      quotas = quotas_set pools P pool h.quotas c.requires.fits.low c.requires.fits.high;
      nested = nesting_same pools (set pools P pool) shapes sizes ∙ h.nested;
      trees = h.trees ∙ sym (trees_same pools (set pools P pool) shapes sizes c.args.self.now.progs.items);
      roll = h.roll;
    }

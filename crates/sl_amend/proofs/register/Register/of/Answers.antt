use Rattle.std.proofs.Common.{◌≡◌, ◌∙◌, ℕ, List, length, sym, ap}
use Rattle.sl_types.specs.declared.kinds.Entry.{Entry}
use Rattle.sl_types.specs.declared.kinds.Pool.{Pool}
use Rattle.sl_types.specs.declared.kinds.PoolId.{PoolId}
use Rattle.sl_types.specs.Market.{Market}
use Rattle.sl_types.specs.Valid.{IsValid}
use Rattle.sl_amend.specs.Roll.{lists_of}
use Rattle.sl_amend.proofs.ValidLists.{valid_nested, valid_quotas, valid_free}
use Rattle.sl_amend.proofs.register.Register.of.Goals as goal

pub returns-clause-register : goal.returns-clause-register
returns-clause-register c =
    let named = c.args.named.now in
    let market = named.market in
    let is = c.instance-instance.ensures.market in
    let coded = c.instance-instance.ensures.named in
    let valid : IsValid market = rw is at c.pools-valid.ensures.valid in
    let pools : c.in_ok-pools.pools.items ≡ market.pools = c.in_ok-pools.ensures ∙ ap (λ (m : Market). m.pools) is in
    let progs : c.in_ok-progs.progs.items ≡ market.progs = c.in_ok-progs.ensures ∙ ap (λ (m : Market). m.progs) is in
    let roll = c.in_ok-roll_of.ensures in
    let lists : lists_of c.in_ok-roll_of.field-0 ≡ market.lists = roll.lists ∙ ap (λ (m : Market). m.lists) is in
    let pool_codes = c.in_ok-copy_codes.ensures ∙ c.pool_codes.ensures.codes in
    let prog_codes = c.in_ok-copy_codes-2.ensures ∙ c.prog_codes.ensures.codes in
    let app_codes = c.in_ok-copy_codes-3.ensures ∙ c.app_codes.ensures.codes in
    record {
      each_pool = ap (λ (codes : List (List ℕ)). length codes) pool_codes ∙ coded.each_pool ∙ sym (ap (λ (ps : List Pool). length ps) pools);
      each_prog = ap (λ (codes : List (List ℕ)). length codes) prog_codes ∙ coded.each_prog ∙ sym (ap (λ (gs : List PoolId). length gs) progs);
      each_applicant = ap (λ (codes : List (List ℕ)). length codes) app_codes ∙ coded.each_applicant ∙ sym (ap (λ (ls : List (List Entry)). length ls) lists);
      coded = rw app_codes coded.applicants.coded;
      quotas = rw pools (valid_quotas market valid);
      nested = rw pools (valid_nested market valid);
      trees = roll.trees ∙ (rw (c.deref.ensures.value, c.deref-2.ensures.value) at c.in_ok-trees.ensures);
      roll = roll.roll;
    }

pub returns-clause-free : goal.returns-clause-free
returns-clause-free c =
    let valid : IsValid c.args.named.now.market = rw c.instance-instance.ensures.market at c.pools-valid.ensures.valid in
    valid_free c.args.named.now.market valid

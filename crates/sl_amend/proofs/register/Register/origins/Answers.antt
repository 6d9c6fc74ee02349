use Rattle.std.proofs.Common.{◌≡◌, ◌∙◌, ◌<◌, length, All, IfSome, Option, Bool, ℕ, List, sym, ap, subst, arith}
use Rattle.sl_types.specs.declared.kinds.AppId.{AppId}
use Rattle.sl_types.specs.Valid.{IsValid}
use Rattle.sl_types.proofs.Faultless.{faultless}
use Rattle.sl_amend.specs.Origins.{origins_of_marked}
use Rattle.sl_amend.specs.Roll.{lists_of}
use Rattle.sl_amend.proofs.Marked.{length_marked, length_origins, origins_low}
use Rattle.sl_amend.proofs.StillValid.{way}
use Rattle.sl_amend.proofs.register.Register.origins.Goals as goal

pub present_origins-requires : goal.present_origins-requires
present_origins-requires c =
    let named = c.args.named.now in
    let valid : IsValid named.market = rw c.instance.ensures.market at c.pools-valid.ensures.valid in
    let course = way named valid c.instance.ensures.named c.args.self.now c.requires.register c.requires.led in
    let same : c.args.self.now.of_tables ≡ length named.market.lists = course.of_tables in
    let few = (faultless named.market valid).few_applicants in
    omega (arith, same, few)

pub returns-clause-each : goal.returns-clause-each
returns-clause-each c =
    let roll = c.args.self.now.roll in
    let marks = roll.present.items in
    let is : c.in_ok-origins.origins.items ≡ origins_of_marked c.args.self.now.of_tables marks =
    c.in_ok-origins.ensures ∙ ap (λ (ms : List Bool). origins_of_marked c.args.self.now.of_tables ms) c.deref.ensures.value in
    ap (λ (os : List (Option AppId)). length os) is ∙ length_origins c.args.self.now.of_tables marks
    ∙ sym (length_marked marks (lists_of roll) c.requires.register.roll.each)

pub returns-clause-known : goal.returns-clause-known
returns-clause-known c =
    let named = c.args.named.now in
    let marks = c.args.self.now.roll.present.items in
    let valid : IsValid named.market = rw c.instance.ensures.market at c.pools-valid.ensures.valid in
    let course = way named valid c.instance.ensures.named c.args.self.now c.requires.register c.requires.led in
    let same : c.args.self.now.of_tables ≡ length named.market.lists = course.of_tables in
    let is : c.in_ok-origins.origins.items ≡ origins_of_marked c.args.self.now.of_tables marks =
    c.in_ok-origins.ensures ∙ ap (λ (ms : List Bool). origins_of_marked c.args.self.now.of_tables ms) c.deref.ensures.value in
    subst (λ (n : ℕ). All (λ o. IfSome o (λ a. a.0 < n)) c.in_ok-origins.origins.items) same
    (subst (λ (os : List (Option AppId)). All (λ o. IfSome o (λ a. a.0 < c.args.self.now.of_tables)) os) (sym is) (origins_low c.args.self.now.of_tables marks))

use Rattle.std.proofs.Common.{◌≡◌, ◌∙◌, length, List, ℕ, Bool, refl, sym, ap}
use Rattle.sl_types.specs.Market.{Market}
use Rattle.sl_types.specs.Valid.{IsValid}
use Rattle.sl_codes.specs.Fields.{is_code}
use Rattle.sl_amend.specs.DraftMarket.{amended, marked}
use Rattle.sl_amend.specs.Register.{draft_of}
use Rattle.sl_amend.specs.Roll.{lists_of}
use Rattle.sl_amend.proofs.Marked.{length_marked, all_marked}
use Rattle.sl_amend.proofs.StillValid.{way, is_amended, still_valid}
use Rattle.sl_amend.proofs.register.Register.amended.Goals as goal

pub instance-requires-2-clause-valid : goal.instance-requires-2-clause-valid
instance-requires-2-clause-valid c =
    let named = c.args.named.now in
    let valid : IsValid named.market = rw c.instance.ensures.market at c.pools-valid.ensures.valid in
    still_valid named valid c.instance.ensures.named c.args.self.now c.requires.register c.requires.led

pub new-requires-clause-each_pool : goal.new-requires-clause-each_pool
new-requires-clause-each_pool c =
    let named = c.args.named.now in
    let valid : IsValid named.market = rw c.instance.ensures.market at c.pools-valid.ensures.valid in
    let same = is_amended named valid c.instance.ensures.named c.args.self.now c.requires.register c.requires.led in
    ap (λ (codes : List (List ℕ)). length codes) (c.in_ok-pools.ensures ∙ c.pool_codes.ensures.codes)
    ∙ c.instance.ensures.named.each_pool ∙ sym same.each ∙ sym (ap (λ (m : Market). length m.pools) c.in_ok-instance.ensures)

pub new-requires-clause-each_prog : goal.new-requires-clause-each_prog
new-requires-clause-each_prog c =
    let named = c.args.named.now in
    let valid : IsValid named.market = rw c.instance.ensures.market at c.pools-valid.ensures.valid in
    let same = is_amended named valid c.instance.ensures.named c.args.self.now c.requires.register c.requires.led in
    ap (λ (codes : List (List ℕ)). length codes) (c.in_ok-progs.ensures ∙ c.prog_codes.ensures.codes)
    ∙ c.instance.ensures.named.each_prog ∙ sym (ap (λ gs. length gs) same.progs) ∙ sym (ap (λ (m : Market). length m.progs) c.in_ok-instance.ensures)

pub new-requires-clause-each_applicant : goal.new-requires-clause-each_applicant
new-requires-clause-each_applicant c =
    let h = c.requires.register in
    let marks = c.args.self.now.roll.present.items in
    let apps : c.in_ok-apps.apps ≡ marked marks c.args.self.now.app_codes =
    c.in_ok-apps.ensures ∙ ap (λ (ms : List Bool). marked ms c.args.self.now.app_codes) c.deref.ensures.value in
    ap (λ (codes : List (List ℕ)). length codes) apps ∙ length_marked marks c.args.self.now.app_codes (h.roll.each ∙ sym h.each_applicant)
    ∙ sym (length_marked marks (lists_of c.args.self.now.roll) h.roll.each) ∙ sym (ap (λ (m : Market). length m.lists) c.in_ok-instance.ensures)

pub new-requires-clause-coded_applicants : goal.new-requires-clause-coded_applicants
new-requires-clause-coded_applicants c =
    let marks = c.args.self.now.roll.present.items in
    let apps : c.in_ok-apps.apps ≡ marked marks c.args.self.now.app_codes =
    c.in_ok-apps.ensures ∙ ap (λ (ms : List Bool). marked ms c.args.self.now.app_codes) c.deref.ensures.value in
    rw apps (all_marked is_code marks c.args.self.now.app_codes c.requires.register.coded)

pub returns-clause-amended : goal.returns-clause-amended
returns-clause-amended c =
    let named = c.args.named.now in
    let valid : IsValid named.market = rw c.instance.ensures.market at c.pools-valid.ensures.valid in
    let course = way named valid c.instance.ensures.named c.args.self.now c.requires.register c.requires.led in
    let draft = draft_of c.args.self.now in
    let marks = c.args.self.now.roll.present.items in
    let instance : c.in_ok-instance.instance ≡ (amended draft).market = c.in_ok-instance.ensures in
    let pools : c.in_ok-pools.pools ≡ c.args.self.now.pool_codes = c.in_ok-pools.ensures ∙ c.pool_codes.ensures.codes ∙ sym course.pool_codes in
    let progs : c.in_ok-progs.progs ≡ c.args.self.now.prog_codes = c.in_ok-progs.ensures ∙ c.prog_codes.ensures.codes ∙ sym course.prog_codes in
    let apps : c.in_ok-apps.apps ≡ marked marks c.args.self.now.app_codes =
    c.in_ok-apps.ensures ∙ ap (λ (ms : List Bool). marked ms c.args.self.now.app_codes) c.deref.ensures.value in
    rw (c.new.ensures, instance, pools, progs, apps) refl

pub returns-clause-same : goal.returns-clause-same
returns-clause-same c =
    let named = c.args.named.now in
    let valid : IsValid named.market = rw c.instance.ensures.market at c.pools-valid.ensures.valid in
    let same = is_amended named valid c.instance.ensures.named c.args.self.now c.requires.register c.requires.led in
    rw (c.new.ensures, c.in_ok-instance.ensures) same

use Rattle.std.proofs.Common.{ℕ, List, Bool, length, subst, ◌≡◌}
use Rattle.std.specs.List.{list_any}
use Rattle.sl_types.specs.Valid.{applicant_numbers}
use Rattle.sl_amend.specs.Amended.{origins_of}
use Rattle.sl_amend.specs.Touched.{IsFlaggedBy, is_off_before, is_off_after}
use Rattle.sl_amend.proofs.Whole.{touched_flags}
use Rattle.sl_amend.proofs.keeping.flag_touched.Goals as goal

pub returns-clause-touched : goal.returns-clause-touched
returns-clause-touched c =
    let old = c.args.old.now in
    let new = c.args.new.now in
    let was = origins_of c.args.origins.now in
    let n : ℕ = length old.pools in
    let before = subst (λ (s : List Bool). IsFlaggedBy (λ P. list_any (is_off_before old s P) (applicant_numbers old)) n c.args.flags.now c.flag_before.new.flags) c.deref.ensures.value c.flag_before.ensures.flagged in
    let same : length new.pools ≡ n = c.requires.amended.each in
    let after = subst (λ (m : ℕ). IsFlaggedBy (λ P. list_any (is_off_after new was c.in_ok-still.still.items P) (applicant_numbers new)) m c.flag_before.new.flags c.flag_after.new.flags) same
    (subst (λ (s : List Bool). IsFlaggedBy (λ P. list_any (is_off_after new was s P) (applicant_numbers new)) (length new.pools) c.flag_before.new.flags c.flag_after.new.flags) c.deref-2.ensures.value c.flag_after.ensures.flagged) in
    touched_flags old new c.args.origins.now c.requires.origins c.in_ok-still.still.items c.in_ok-still.ensures.still n c.args.flags.now c.flag_before.new.flags c.flag_after.new.flags c.flag_quotas.new.flags before after c.in_ok-flag_quotas.ensures.flagged

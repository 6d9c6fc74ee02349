use Rattle.std.proofs.Common.{◌≡◌, ◌∙◌, ap, false, Some, map, string_bytes, rules}
use Rattle.std.proofs.lemmas.Cmp.{nat_list_eq_equiv}
use Rattle.std.specs.Str.{bytes_eq}
use Rattle.sl_codes.specs.Codes.{has_code}
use Rattle.sl_codes.proofs.Lists.{position_push}
use Rattle.sl_codes.proofs.codes.Codes.add.Goals as goal
use Rattle.std.proofs.lemmas.List.{length-map}

pub returns-clause-number : goal.returns-clause-number
returns-clause-number c =
    let code = c.args.code.now in
    let codes = map (λ k. string_bytes k) c.self.inside.set.keys in
    let absent : has_code codes code ≡ false = search rules in
    let pushed = c.in-Ok-push_new.ensures.keys in
    let text = c.in-Ok.ensures.ok in
    rw (pushed, text, c.in-Ok-push_new.ensures.index) (position_push (bytes_eq code) codes code absent (nat_list_eq_equiv.refl code) ∙ ap Some (length-map c.self.inside.set.keys (λ k. string_bytes k)))

use Rattle.std.proofs.Common.{◌∙◌, sym, [], ◌∷◌, string_bytes}
use Rattle.std.proofs.lemmas.List.{map-append}
use Rattle.std.specs.Str.{bytes_eq}
use Rattle.sl_codes.proofs.Lists.{any_map, place_none}
use Rattle.sl_codes.proofs.codes.push_new.Goals as goal

pub returns-clause-keys : goal.returns-clause-keys
returns-clause-keys c =
    let ks = c.args.set.now.keys in
    let absent = sym (any_map (λ k. string_bytes k) (bytes_eq (string_bytes c.args.code)) ks) ∙ c.requires in
    rw (c.in_ok-index.ensures.keys, absent) (map-append (λ k. string_bytes k) ks (c.args.code ∷ []))

pub returns-clause-index : goal.returns-clause-index
returns-clause-index c =
    let ks = c.args.set.now.keys in
    let absent = sym (any_map (λ k. string_bytes k) (bytes_eq (string_bytes c.args.code)) ks) ∙ c.requires in
    c.in_ok-index.ensures.index ∙ place_none (λ k. bytes_eq (string_bytes c.args.code) (string_bytes k)) ks absent

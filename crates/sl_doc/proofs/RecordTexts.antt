-- The texts of records one after another.
use Rattle.std.proofs.Common.{◌≡◌, ◌∙◌, List, [], ◌∷◌, ◌++◌, ap, append-nil, append_assoc}
use Rattle.std.specs.Prelude.{flat_map}
use Rattle.std.proofs.lemmas.Grind.{flat_map-append}
use Rattle.std.proofs.lemmas.List.Concat.{flat_map-cons}
use Rattle.sl_codes.specs.Records.{Record}
use Rattle.sl_codes.specs.RecordText.{text_of_record}

-- of two records
pub two_texts : (first second : Record) → flat_map text_of_record (first ∷ second ∷ []) ≡ text_of_record first ++ text_of_record second
two_texts first second =
    flat_map-cons text_of_record first (second ∷ [])
    ∙ ap (λ l. text_of_record first ++ l) (flat_map-cons text_of_record second [] ∙ append-nil (text_of_record second))

-- of three lists of records
pub three_texts : (xs ys zs : List Record) → flat_map text_of_record (xs ++ (ys ++ zs))
    ≡ flat_map text_of_record xs ++ (flat_map text_of_record ys ++ flat_map text_of_record zs)
three_texts xs ys zs =
    flat_map-append text_of_record xs (ys ++ zs) ∙ ap (λ l. flat_map text_of_record xs ++ l) (flat_map-append text_of_record ys zs)

-- of two lists and a record
pub whole_texts : (xs ys : List Record) (last : Record) → flat_map text_of_record ((xs ++ ys) ++ last ∷ [])
    ≡ flat_map text_of_record xs ++ (flat_map text_of_record ys ++ text_of_record last)
whole_texts xs ys last =
    flat_map-append text_of_record (xs ++ ys) (last ∷ [])
    ∙ ap (λ l. l ++ flat_map text_of_record (last ∷ [])) (flat_map-append text_of_record xs ys)
    ∙ ap (λ l. (flat_map text_of_record xs ++ flat_map text_of_record ys) ++ l) (flat_map-cons text_of_record last [] ∙ append-nil (text_of_record last))
    ∙ append_assoc (flat_map text_of_record xs) (flat_map text_of_record ys) (text_of_record last)

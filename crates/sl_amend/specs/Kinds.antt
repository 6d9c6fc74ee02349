-- The kinds of amendment, by the first field of a row.
use Rattle.std.specs.Prelude.{ℕ, List, codes, if◌then◌else◌, Option, Some, None}
use Rattle.std.specs.Str.{bytes_eq}
use Rattle.sl_amend.specs.declared.kind.Kind.{Kind}
use Rattle.sl_amend.specs.declared.kind.Kind.TheVariants.{Quota, New, Add, Drop, Withdraw, Score}

-- the kind of this word
abbrev pub kind_of : List ℕ → Option Kind
kind_of field =
    if bytes_eq field (codes "quota") then Some Quota
    else if bytes_eq field (codes "new") then Some New
    else if bytes_eq field (codes "add") then Some Add
    else if bytes_eq field (codes "drop") then Some Drop
    else if bytes_eq field (codes "withdraw") then Some Withdraw
    else if bytes_eq field (codes "score") then Some Score
    else None

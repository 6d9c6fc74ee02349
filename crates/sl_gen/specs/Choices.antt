-- The choices of the applicants of a generated round.
use Rattle.std.specs.Prelude.{ℕ, ◌+◌, ◌-◌, ◌*◌, ◌/◌, ◌%◌, if◌then◌else◌, List, map}
use Rattle.std.specs.List.{range_with_len}
use Rattle.sl_types.specs.declared.kinds.Entry.{Entry}
use Rattle.sl_types.specs.Rules.{is_merit}
use Rattle.sl_gen.specs.Pools.{rule_of_pool, pool_of_prog}

-- how many choices applicant a has: 1 to 6
abbrev pub choice_count : ℕ → ℕ
choice_count a = 1 + a % 6

-- the programme of choice j of applicant a, where there are so many programmes
abbrev pub prog_chosen : ℕ → ℕ → ℕ → ℕ
prog_chosen progs a j = (a * 37 + j * 113 + (a / 400) * 16) % progs

-- the merit of applicant a in all merit pools
abbrev pub merit_of : ℕ → ℕ
merit_of a = 1 + (a * 314159) % 524288

-- the points of applicant a for programme g, where its pool is no merit pool
abbrev pub points_of : ℕ → ℕ → ℕ
points_of a g = (a * 7919 + g * 331) % 501

-- the score of applicant a for programme g
abbrev pub score_of : ℕ → ℕ → ℕ
score_of a g = if is_merit (rule_of_pool (pool_of_prog g).0) then merit_of a else points_of a g

-- choice j of applicant a
abbrev pub choice_numbered : ℕ → ℕ → ℕ → Entry
choice_numbered progs a j = record {
  place = j + 1;
  prog = record { 0 = prog_chosen progs a j };
  score = score_of a (prog_chosen progs a j);
}

-- the list of applicant a
abbrev pub choices_of : ℕ → ℕ → List Entry
choices_of progs a = map (choice_numbered progs a) (range_with_len 0 (choice_count a))

-- the lists of the applicants from `first` up to `end`
abbrev pub lists_between : ℕ → ℕ → ℕ → List (List Entry)
lists_between progs first end = map (choices_of progs) (range_with_len first (end - first))

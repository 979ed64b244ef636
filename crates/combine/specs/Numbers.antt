-- New numbers in a table.
use Rattle.std.specs.Prelude.{cond, List, ℕ, ◌+◌, ◌-◌, ltb, length, get_or}

-- the new number of t: the table's; past the sections it falls as their number does
abbrev pub numberBy : List ℕ → ℕ → ℕ → ℕ
numberBy ns heads t = cond (ltb t (length ns)) (get_or ns t 0) (heads + (t - length ns))

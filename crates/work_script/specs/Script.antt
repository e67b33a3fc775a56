-- The script of `luaris work`.
use Rattle.std.specs.Prelude.{ℕ, List, [], ◌++◌, codes, decimal}
use Rattle.std.proofs.Common.{zero, suc}

-- a function that adds a number is made and called once
abbrev pub work_line : ℕ → List ℕ
work_line number = codes "do local function f(x) return x+" ++ (decimal number ++ codes " end s=f(s) end\n")

-- one such line for each number from 1 on
abbrev pub work_lines : ℕ → List ℕ
work_lines zero = []
work_lines (suc n) = work_lines n ++ work_line (suc n)

abbrev pub work_script : ℕ → List ℕ
work_script count = codes "local s=0\n" ++ (work_lines count ++ codes "print(s)\n")

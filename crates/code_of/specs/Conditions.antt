-- The code of a condition, which is an expression of which only the truth is wanted (Lua 5.4 manual, 3.3.4). Where the truth is k, execution goes
-- on behind this code; where it is not, execution jumps to the place that lies `ahead` instructions past its end.
use Rattle.std.specs.Prelude.{ℕ, Bool, List}
use Rattle.tree_core.specs.Tree.{Exp}
use Rattle.code_core.specs.declared.proto.Const.{Const}
use Rattle.code_of.specs.Coded.{Coded}
use Rattle.code_of.specs.Expressions.{exp_code, tested_value, tested_by, kept_by}

-- Registers from t on are free, and functions that are made here are numbered from j on
module _ (constants : List Const) where
  -- by its value
  abbrev pub value_test : Exp → (k : Bool) → (ahead t j : ℕ) → List Coded
  value_test e k ahead t j = tested_value e (exp_code constants e t j 2) k ahead t

  abbrev pub test_code : Exp → (k : Bool) → (ahead t j : ℕ) → List Coded
  test_code e k ahead t j = tested_by constants e (exp_code constants e t j 2) k ahead t j

  -- the first operand of `and` or `or`, whose value is kept in register t where its truth is k
  abbrev pub keep_code : Exp → (k : Bool) → (ahead t j : ℕ) → List Coded
  keep_code e k ahead t j = kept_by constants e (exp_code constants e t j 2) k ahead t j

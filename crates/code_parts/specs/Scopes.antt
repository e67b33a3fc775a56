-- The local variables of a function while its code is written: where the scope of each begins, and where it ends if it does already.
use Rattle.std.specs.Prelude.{ℕ, zero, suc, ◌+◌, Bool, List, [], ◌∷◌, ◌++◌, length, map, Option, Some, None}
use Rattle.tree_core.specs.Tree.{Stats, EndStats, MoreStats, Stat, Local, LocalFunction}
use Rattle.code_core.specs.declared.proto.Const.{Const}
use Rattle.code_core.specs.declared.proto.LocVar.{LocVar}
use Rattle.code_of.specs.declared.leaving.Leaving.{Leaving}
use Rattle.code_of.specs.Expressions.{exps_code}
use Rattle.code_of.specs.Levels.{made_by_stat, closing_after}
use Rattle.tree_terms.specs.Levels.{level_after}
use Rattle.code_of.specs.Sizes.{stat_size}
use Rattle.code_of.specs.Variables.{within_stat}
use Rattle.code_parts.specs.declared.variables.Variable.{Variable}

abbrev pub begun : (name : Option (List ℕ)) → (start : ℕ) → Variable
begun name start = record { name = name; start = start; end = None }

abbrev pub hidden_from : (n start : ℕ) → List Variable
hidden_from zero start = []
hidden_from (suc n) start = begun None start ∷ hidden_from n start

-- a variable whose scope has ended
abbrev pub over : LocVar → Variable
over v = record { name = v.name; start = v.start; end = Some v.end }

-- a scope that ended before stays as it is

abbrev pub ended_at : (place : ℕ) → Option ℕ → Option ℕ
ended_at place None = Some place
ended_at place (Some end) = Some end

abbrev pub ended : (place : ℕ) → Variable → Variable
ended place v = record { name = v.name; start = v.start; end = ended_at place v.end }

-- the scopes of all variables behind some first ones end
abbrev pub ended_from : (first place : ℕ) → List Variable → List Variable
ended_from first place [] = []
ended_from zero place (v ∷ vs) = ended place v ∷ ended_from zero place vs
ended_from (suc first) place (v ∷ vs) = v ∷ ended_from first place vs

-- in a prototype
abbrev pub end_or_none : Option ℕ → ℕ
end_or_none None = 0
end_or_none (Some end) = end

abbrev pub finished : Variable → LocVar
finished v = record { name = v.name; start = v.start; end = end_or_none v.end }

-- what statements declare, in the block in which they stand and whose end is still to come, with what is within them
module _ (constants : List Const) (back : Leaving) where
  abbrev pub begun_by : Stat → (t j pc : ℕ) → List Variable
  begun_by (Local line names es) t j pc = map (λ d. begun (Some d.name.text) (pc + length (exps_code constants es (Some (length names)) t j line))) names
  begun_by (LocalFunction line name body) t j pc = begun (Some name.text) (pc + 1) ∷ []
  begun_by _ t j pc = []

  abbrev pub begun_in : Stats → (closing : Bool) → (t j pc : ℕ) → List Variable
  begun_in EndStats closing t j pc = []
  begun_in (MoreStats s ss) closing t j pc =
      begun_by s t j pc ++ (map over (within_stat constants back s closing t j pc)
      ++ begun_in ss (closing_after s closing) (level_after s t) (j + made_by_stat s) (pc + stat_size constants back s closing t j))

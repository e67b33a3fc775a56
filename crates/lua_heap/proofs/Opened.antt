-- A world in which nothing has run is sound.
use Rattle.std.proofs.Common.{ℕ, zero, suc, [], ◌∷◌, None, refl, subst, arith, lit≤}
use Rattle.int_core.specs.Heap.{Table}
use Rattle.machine_sound.specs.Sound.{Sizes, Each, TableOk, Sound, idle}
use Rattle.machine_sound.proofs.Chains.{chain_none}
use Rattle.list_laws.proofs.Items.{some_same}
use Rattle.lua_heap.specs.Opening.{opened_world}

abbrev empty : Table
empty = record { rows = []; metatable = None }

empty_ok : (z : Sizes) → TableOk z empty
empty_ok z = record { rows = λ i r e. absurd (cc); metatable = tt }

tables_ok : (z : Sizes) → Each (TableOk z) (empty ∷ empty ∷ [])
tables_ok z zero t e = subst (TableOk z) (some_same empty t e) (empty_ok z)
tables_ok z (suc zero) t e = subst (TableOk z) (some_same empty t e) (empty_ok z)
tables_ok z (suc (suc i)) t e = absurd (cc)

pub opened_sound : (primitives fuel : ℕ) → Sound primitives (opened_world fuel)
opened_sound primitives fuel = record {
  solid = record {
    tables = tables_ok _;
    functions = λ i f e. absurd (cc);
    cells = λ i c e. absurd (cc);
    one_each = λ i j co frame register e f. absurd (cc);
    coroutines = λ i c e. absurd (cc);
    chain = chain_none None [] (λ co e. cc) (λ co e. cc);
    moving = λ i v e. absurd (cc);
    roots = record {
      string_metatable = tt;
      globals = omega arith;
      prelude_environment = omega arith;
      prelude_functions = λ i f e. absurd (cc);
      special_key = lit≤ tt;
      main = tt;
    };
  };
  rests = idle refl;
}

-- What has registers from one on has them from a lower one on.
use Rattle.std.proofs.Common.{ℕ, ◌+◌, ◌%◌, ◌≤◌, List, Option, arith}
use Rattle.tree_core.specs.Tree.{Exp, Vararg, Function, Var, Index, Call, Method, Unary, Binary, And, Or, Paren, Table, Exps, EndExps, MoreExps, Fields, EndFields, MoreFields, Item, Keyed}
use Rattle.code_core.specs.Prototype.{Prototype}
use Rattle.code_checked.specs.Near.{ExpIsNear, ExpsAreNear, FieldsAreNear}

module _ (source : Option (List ℕ)) (p : Prototype) where
  mutual
    pub exp_lower : (e : Exp) (size t u : ℕ) → t ≤ u → ExpIsNear source p e size u → ExpIsNear source p e size t
    exp_lower (Vararg line) size t u le h = let r = h.0 in (omega (arith, le, r), h.1)
    exp_lower (Function line body) size t u le h = let r = h.0 in (omega (arith, le, r), h.1)
    exp_lower (Var line name) size t u le h = let r = h.0 in (omega (arith, le, r), h.1)
    exp_lower (Index line object key) size t u le h = let r = h.0 in (omega (arith, le, r), (exp_lower object size t u le h.1.0, exp_lower key size (t + 1) (u + 1) (omega (arith, le)) h.1.1))
    exp_lower (Call line f es) size t u le h = let r = h.0 in (omega (arith, le, r), (exp_lower f size t u le h.1.0, exps_lower es size (t + 1) (u + 1) (omega (arith, le)) h.1.1))
    exp_lower (Method line object name es) size t u le h = let r = h.0 in (omega (arith, le, r), (exp_lower object size t u le h.1.0, exps_lower es size (t + 2) (u + 2) (omega (arith, le)) h.1.1))
    exp_lower (Unary line op e) size t u le h = let r = h.0 in (omega (arith, le, r), exp_lower e size t u le h.1)
    exp_lower (Binary line op e d) size t u le h = let r = h.0 in (omega (arith, le, r), (exp_lower e size t u le h.1.0, exp_lower d size (t + 1) (u + 1) (omega (arith, le)) h.1.1))
    exp_lower (And line e d) size t u le h = let r = h.0 in (omega (arith, le, r), (exp_lower e size t u le h.1.0, exp_lower d size t u le h.1.1))
    exp_lower (Or line e d) size t u le h = let r = h.0 in (omega (arith, le, r), (exp_lower e size t u le h.1.0, exp_lower d size t u le h.1.1))
    exp_lower (Paren line e) size t u le h = let r = h.0 in (omega (arith, le, r), exp_lower e size t u le h.1)
    exp_lower (Table line fs) size t u le h = let r = h.0 in (omega (arith, le, r), fields_lower fs 0 size t u le h.1)
    exp_lower _ size t u le h = let r = h.0 in (omega (arith, le, r), tt)

    pub exps_lower : (es : Exps) (size t u : ℕ) → t ≤ u → ExpsAreNear source p es size u → ExpsAreNear source p es size t
    exps_lower EndExps size t u le h = tt
    exps_lower (MoreExps e es) size t u le h = (exp_lower e size t u le h.0, exps_lower es size (t + 1) (u + 1) (omega (arith, le)) h.1)

    fields_lower : (fs : Fields) (items size t u : ℕ) → t ≤ u → FieldsAreNear source p fs items size u → FieldsAreNear source p fs items size t
    fields_lower EndFields items size t u le h = tt
    fields_lower (MoreFields (Item e) fs) items size t u le h = (exp_lower e size (t + 1 + items % 50) (u + 1 + items % 50) (omega (arith, le)) h.0, fields_lower fs (items + 1) size t u le h.1)
    fields_lower (MoreFields (Keyed line e d) fs) items size t u le h =
        (exp_lower e size (t + 1) (u + 1) (omega (arith, le)) h.0, (exp_lower d size (t + 2) (u + 2) (omega (arith, le)) h.1.0, fields_lower fs items size t u le h.1.1))

-- What a tree adds to the table of constants, and the functions that come behind its own.
use Rattle.std.proofs.Common.{◌≡◌, ℕ, ◌+◌, Bool, true, false, cond, List, Option, subst, arith}
use Rattle.std.specs.Prelude.{ℤ}
use Rattle.tree_core.specs.declared.name.Place.{Place}
use Rattle.tree_core.specs.declared.name.Place.TheVariants.{Unset, Upvalue, GlobalIn, GlobalOf}
use Rattle.tree_core.specs.declared.name.Place.TheVariants.{Local as LocalPlace}
use Rattle.tree_core.specs.Tree.{Block, Falls, Returns, Stats, EndStats, MoreStats, Stat, Local, LocalFunction, Assign, CallStat, Do, While, Repeat, If, IfElse, NumFor, NumForStep, GenFor, Arms, EndArms, MoreArms, Exp, Int, Str, Function, Var, Index, Call, Method, Unary, Binary, And, Or, Paren, Table, Exps, EndExps, MoreExps, Fields, EndFields, MoreFields, Field, Item, Keyed}
use Rattle.code_core.specs.declared.proto.Const.{Const}
use Rattle.code_core.specs.declared.proto.Const.TheVariants.{Int as IntConst, Str as StrConst}
use Rattle.code_core.specs.Prototype.{Prototype, Prototypes}
use Rattle.code_of.specs.ConstantOperands.{any_constant, constant_of, stored_constant}
use Rattle.code_of.specs.Constants.{is_small, with_constant, with_any, of_name, of_exp, of_exps, of_fields, of_field, of_stat, of_arms, of_stats, of_block}
use Rattle.code_of.specs.Expressions.{made_by, made_in, made_in_fields, made_by_field}
use Rattle.code_of.specs.Levels.{made_by_stat, made_in_arms, made_in_stats, made_in_block}
use Rattle.code_of.specs.CodeOf.{parts_of, from_exp, from_exps, from_fields, from_field, from_stat, from_arms, from_stats, from_block, from_body}
use Rattle.code_checked.proofs.Found.{Grows, grows_none, grows_then, grows_with, grows_any}
use Rattle.code_checked.proofs.Loads.{Functions, functions_next}

grows_name : (place : Place) (text : List ℕ) (cs : List Const) → Grows cs (of_name place text cs)
grows_name Unset text cs = grows_none cs
grows_name (LocalPlace n) text cs = grows_none cs
grows_name (Upvalue u) text cs = grows_none cs
grows_name (GlobalIn n) text cs = grows_with (StrConst text) cs
grows_name (GlobalOf u) text cs = grows_with (StrConst text) cs

grows_integer : (b : Bool) (z : ℤ) (cs : List Const) → Grows cs (cond b cs (with_constant (IntConst z) cs))
grows_integer true z cs = grows_none cs
grows_integer false z cs = grows_with (IntConst z) cs

mutual
  pub grows_exp : (x : Exp) (cs : List Const) → Grows cs (of_exp x cs)
  grows_exp (Int line z) cs = grows_integer (is_small z) z cs
  grows_exp (Str line bytes) cs = grows_with (StrConst bytes) cs
  grows_exp (Var line name) cs = grows_name name.place name.text cs
  grows_exp (Index line o k) cs = grows_then cs (of_exp o cs) (of_exp k (of_exp o cs)) (grows_exp o cs) (grows_exp k (of_exp o cs))
  grows_exp (Call line f es) cs = grows_then cs (of_exp f cs) (of_exps es (of_exp f cs)) (grows_exp f cs) (grows_exps es (of_exp f cs))
  grows_exp (Method line o name es) cs = let named = with_constant (StrConst name.text) (of_exp o cs) in grows_then cs named (of_exps es named) (grows_then cs (of_exp o cs) named (grows_exp o cs) (grows_with (StrConst name.text) (of_exp o cs))) (grows_exps es named)
  grows_exp (Unary line op e) cs = grows_exp e cs
  grows_exp (Binary line op e d) cs =
      let made = with_any (constant_of op d) (of_exp e cs) in
      grows_then cs made (of_exp d made) (grows_then cs (of_exp e cs) made (grows_exp e cs) (grows_any (constant_of op d) (of_exp e cs))) (grows_exp d made)
  grows_exp (And line e d) cs = grows_then cs (of_exp e cs) (of_exp d (of_exp e cs)) (grows_exp e cs) (grows_exp d (of_exp e cs))
  grows_exp (Or line e d) cs = grows_then cs (of_exp e cs) (of_exp d (of_exp e cs)) (grows_exp e cs) (grows_exp d (of_exp e cs))
  grows_exp (Paren line e) cs = grows_exp e cs
  grows_exp (Table line fs) cs = grows_fields fs cs
  grows_exp _ cs = grows_none cs

  pub grows_exps : (x : Exps) (cs : List Const) → Grows cs (of_exps x cs)
  grows_exps EndExps cs = grows_none cs
  grows_exps (MoreExps e es) cs = grows_then cs (of_exp e cs) (of_exps es (of_exp e cs)) (grows_exp e cs) (grows_exps es (of_exp e cs))

  pub grows_fields : (x : Fields) (cs : List Const) → Grows cs (of_fields x cs)
  grows_fields EndFields cs = grows_none cs
  grows_fields (MoreFields f fs) cs = grows_then cs (of_field f cs) (of_fields fs (of_field f cs)) (grows_field f cs) (grows_fields fs (of_field f cs))

  pub grows_field : (x : Field) (cs : List Const) → Grows cs (of_field x cs)
  grows_field (Item e) cs = grows_exp e cs
  grows_field (Keyed line e d) cs =
      let named = with_any (any_constant d) (of_exp e cs) in
      grows_then cs named (of_exp d named) (grows_then cs (of_exp e cs) named (grows_exp e cs) (grows_any (any_constant d) (of_exp e cs))) (grows_exp d named)

mutual
  pub grows_stat : (x : Stat) (cs : List Const) → Grows cs (of_stat x cs)
  grows_stat (Local line names es) cs = grows_exps es cs
  grows_stat (Assign line ts es) cs =
      let named = with_any (stored_constant ts es) (of_exps ts cs) in
      grows_then cs named (of_exps es named) (grows_then cs (of_exps ts cs) named (grows_exps ts cs) (grows_any (stored_constant ts es) (of_exps ts cs))) (grows_exps es named)
  grows_stat (CallStat line e) cs = grows_exp e cs
  grows_stat (Do line b) cs = grows_block b cs
  grows_stat (While line e b) cs = grows_then cs (of_exp e cs) (of_block b (of_exp e cs)) (grows_exp e cs) (grows_block b (of_exp e cs))
  grows_stat (Repeat line b e) cs = grows_then cs (of_block b cs) (of_exp e (of_block b cs)) (grows_block b cs) (grows_exp e (of_block b cs))
  grows_stat (If line a) cs = grows_arms a cs
  grows_stat (IfElse line a b) cs = grows_then cs (of_arms a cs) (of_block b (of_arms a cs)) (grows_arms a cs) (grows_block b (of_arms a cs))
  grows_stat (NumFor line name e d b) cs = grows_then cs (of_exp e cs) (of_block b (of_exp d (of_exp e cs))) (grows_exp e cs) (grows_then (of_exp e cs) (of_exp d (of_exp e cs)) (of_block b (of_exp d (of_exp e cs))) (grows_exp d (of_exp e cs)) (grows_block b (of_exp d (of_exp e cs))))
  grows_stat (NumForStep line name e d s b) cs = grows_then cs (of_exp e cs) (of_block b (of_exp s (of_exp d (of_exp e cs)))) (grows_exp e cs) (grows_then (of_exp e cs) (of_exp d (of_exp e cs)) (of_block b (of_exp s (of_exp d (of_exp e cs)))) (grows_exp d (of_exp e cs)) (grows_then (of_exp d (of_exp e cs)) (of_exp s (of_exp d (of_exp e cs))) (of_block b (of_exp s (of_exp d (of_exp e cs)))) (grows_exp s (of_exp d (of_exp e cs))) (grows_block b (of_exp s (of_exp d (of_exp e cs))))))
  grows_stat (GenFor line names es b) cs = grows_then cs (of_exps es cs) (of_block b (of_exps es cs)) (grows_exps es cs) (grows_block b (of_exps es cs))
  grows_stat _ cs = grows_none cs

  pub grows_arms : (x : Arms) (cs : List Const) → Grows cs (of_arms x cs)
  grows_arms EndArms cs = grows_none cs
  grows_arms (MoreArms e b a) cs = grows_then cs (of_exp e cs) (of_arms a (of_block b (of_exp e cs))) (grows_exp e cs) (grows_then (of_exp e cs) (of_block b (of_exp e cs)) (of_arms a (of_block b (of_exp e cs))) (grows_block b (of_exp e cs)) (grows_arms a (of_block b (of_exp e cs))))

  pub grows_stats : (x : Stats) (cs : List Const) → Grows cs (of_stats x cs)
  grows_stats EndStats cs = grows_none cs
  grows_stats (MoreStats s ss) cs = grows_then cs (of_stat s cs) (of_stats ss (of_stat s cs)) (grows_stat s cs) (grows_stats ss (of_stat s cs))

  pub grows_block : (x : Block) (cs : List Const) → Grows cs (of_block x cs)
  grows_block (Falls ss tokens line) cs = grows_stats ss cs
  grows_block (Returns ss es tokens line) cs = grows_then cs (of_stats ss cs) (of_exps es (of_stats ss cs)) (grows_stats ss cs) (grows_exps es (of_stats ss cs))

same_number : (p : Prototype) (j : ℕ) (ps : Prototypes) → Functions p j ps → Functions p (j + 0) ps
same_number p j ps h = let e : j ≡ j + 0 = omega arith in subst (λ k. Functions p k ps) e h

module _ (source : Option (List ℕ)) (p : Prototype) where
  mutual
    pub after_exp : (x : Exp) (j : ℕ) (rest : Prototypes) → Functions p j (from_exp source x rest) → Functions p (j + made_by x) rest
    after_exp (Function line body) j rest h = functions_next p j (parts_of source body) (from_body source body) rest h
    after_exp (Index line o k) j rest h = let sum : (j + made_by o) + made_by k ≡ j + (made_by o + made_by k) = omega arith in subst (λ k. Functions p k rest) sum (after_exp k (j + made_by o) rest (after_exp o j (from_exp source k rest) h))
    after_exp (Call line f es) j rest h = let sum : (j + made_by f) + made_in es ≡ j + (made_by f + made_in es) = omega arith in subst (λ k. Functions p k rest) sum (after_exps es (j + made_by f) rest (after_exp f j (from_exps source es rest) h))
    after_exp (Method line o name es) j rest h = let sum : (j + made_by o) + made_in es ≡ j + (made_by o + made_in es) = omega arith in subst (λ k. Functions p k rest) sum (after_exps es (j + made_by o) rest (after_exp o j (from_exps source es rest) h))
    after_exp (Unary line op e) j rest h = (after_exp e j rest h)
    after_exp (Binary line op e d) j rest h = let sum : (j + made_by e) + made_by d ≡ j + (made_by e + made_by d) = omega arith in subst (λ k. Functions p k rest) sum (after_exp d (j + made_by e) rest (after_exp e j (from_exp source d rest) h))
    after_exp (And line e d) j rest h = let sum : (j + made_by e) + made_by d ≡ j + (made_by e + made_by d) = omega arith in subst (λ k. Functions p k rest) sum (after_exp d (j + made_by e) rest (after_exp e j (from_exp source d rest) h))
    after_exp (Or line e d) j rest h = let sum : (j + made_by e) + made_by d ≡ j + (made_by e + made_by d) = omega arith in subst (λ k. Functions p k rest) sum (after_exp d (j + made_by e) rest (after_exp e j (from_exp source d rest) h))
    after_exp (Paren line e) j rest h = (after_exp e j rest h)
    after_exp (Table line fs) j rest h = (after_fields fs j rest h)
    after_exp _ j rest h = same_number p j rest h

    pub after_exps : (x : Exps) (j : ℕ) (rest : Prototypes) → Functions p j (from_exps source x rest) → Functions p (j + made_in x) rest
    after_exps EndExps j rest h = same_number p j rest h
    after_exps (MoreExps e es) j rest h = let sum : (j + made_by e) + made_in es ≡ j + (made_by e + made_in es) = omega arith in subst (λ k. Functions p k rest) sum (after_exps es (j + made_by e) rest (after_exp e j (from_exps source es rest) h))

    pub after_fields : (x : Fields) (j : ℕ) (rest : Prototypes) → Functions p j (from_fields source x rest) → Functions p (j + made_in_fields x) rest
    after_fields EndFields j rest h = same_number p j rest h
    after_fields (MoreFields f fs) j rest h = let sum : (j + made_by_field f) + made_in_fields fs ≡ j + (made_by_field f + made_in_fields fs) = omega arith in subst (λ k. Functions p k rest) sum (after_fields fs (j + made_by_field f) rest (after_field f j (from_fields source fs rest) h))

    pub after_field : (x : Field) (j : ℕ) (rest : Prototypes) → Functions p j (from_field source x rest) → Functions p (j + made_by_field x) rest
    after_field (Item e) j rest h = (after_exp e j rest h)
    after_field (Keyed line e d) j rest h = let sum : (j + made_by e) + made_by d ≡ j + (made_by e + made_by d) = omega arith in subst (λ k. Functions p k rest) sum (after_exp d (j + made_by e) rest (after_exp e j (from_exp source d rest) h))

  mutual
    pub after_stat : (x : Stat) (j : ℕ) (rest : Prototypes) → Functions p j (from_stat source x rest) → Functions p (j + made_by_stat x) rest
    after_stat (Local line names es) j rest h = (after_exps es j rest h)
    after_stat (LocalFunction line name body) j rest h = functions_next p j (parts_of source body) (from_body source body) rest h
    after_stat (Assign line ts es) j rest h = let sum : (j + made_in ts) + made_in es ≡ j + (made_in ts + made_in es) = omega arith in subst (λ k. Functions p k rest) sum (after_exps es (j + made_in ts) rest (after_exps ts j (from_exps source es rest) h))
    after_stat (CallStat line e) j rest h = (after_exp e j rest h)
    after_stat (Do line b) j rest h = (after_block b j rest h)
    after_stat (While line e b) j rest h = let sum : (j + made_by e) + made_in_block b ≡ j + (made_by e + made_in_block b) = omega arith in subst (λ k. Functions p k rest) sum (after_block b (j + made_by e) rest (after_exp e j (from_block source b rest) h))
    after_stat (Repeat line b e) j rest h = let sum : (j + made_in_block b) + made_by e ≡ j + (made_in_block b + made_by e) = omega arith in subst (λ k. Functions p k rest) sum (after_exp e (j + made_in_block b) rest (after_block b j (from_exp source e rest) h))
    after_stat (If line a) j rest h = (after_arms a j rest h)
    after_stat (IfElse line a b) j rest h = let sum : (j + made_in_arms a) + made_in_block b ≡ j + (made_in_arms a + made_in_block b) = omega arith in subst (λ k. Functions p k rest) sum (after_block b (j + made_in_arms a) rest (after_arms a j (from_block source b rest) h))
    after_stat (NumFor line name e d b) j rest h = let sum : ((j + made_by e) + made_by d) + made_in_block b ≡ j + (made_by e + made_by d + made_in_block b) = omega arith in subst (λ k. Functions p k rest) sum (after_block b ((j + made_by e) + made_by d) rest (after_exp d (j + made_by e) (from_block source b rest) (after_exp e j (from_exp source d (from_block source b rest)) h)))
    after_stat (NumForStep line name e d s b) j rest h = let sum : (((j + made_by e) + made_by d) + made_by s) + made_in_block b ≡ j + (made_by e + made_by d + made_by s + made_in_block b) = omega arith in subst (λ k. Functions p k rest) sum (after_block b (((j + made_by e) + made_by d) + made_by s) rest (after_exp s ((j + made_by e) + made_by d) (from_block source b rest) (after_exp d (j + made_by e) (from_exp source s (from_block source b rest)) (after_exp e j (from_exp source d (from_exp source s (from_block source b rest))) h))))
    after_stat (GenFor line names es b) j rest h = let sum : (j + made_in es) + made_in_block b ≡ j + (made_in es + made_in_block b) = omega arith in subst (λ k. Functions p k rest) sum (after_block b (j + made_in es) rest (after_exps es j (from_block source b rest) h))
    after_stat _ j rest h = same_number p j rest h

    pub after_arms : (x : Arms) (j : ℕ) (rest : Prototypes) → Functions p j (from_arms source x rest) → Functions p (j + made_in_arms x) rest
    after_arms EndArms j rest h = same_number p j rest h
    after_arms (MoreArms e b a) j rest h = let sum : ((j + made_by e) + made_in_block b) + made_in_arms a ≡ j + (made_by e + made_in_block b + made_in_arms a) = omega arith in subst (λ k. Functions p k rest) sum (after_arms a ((j + made_by e) + made_in_block b) rest (after_block b (j + made_by e) (from_arms source a rest) (after_exp e j (from_block source b (from_arms source a rest)) h)))

    pub after_stats : (x : Stats) (j : ℕ) (rest : Prototypes) → Functions p j (from_stats source x rest) → Functions p (j + made_in_stats x) rest
    after_stats EndStats j rest h = same_number p j rest h
    after_stats (MoreStats s ss) j rest h = let sum : (j + made_by_stat s) + made_in_stats ss ≡ j + (made_by_stat s + made_in_stats ss) = omega arith in subst (λ k. Functions p k rest) sum (after_stats ss (j + made_by_stat s) rest (after_stat s j (from_stats source ss rest) h))

    pub after_block : (x : Block) (j : ℕ) (rest : Prototypes) → Functions p j (from_block source x rest) → Functions p (j + made_in_block x) rest
    after_block (Falls ss tokens line) j rest h = (after_stats ss j rest h)
    after_block (Returns ss es tokens line) j rest h = let sum : (j + made_in_stats ss) + made_in es ≡ j + (made_in_stats ss + made_in es) = omega arith in subst (λ k. Functions p k rest) sum (after_exps es (j + made_in_stats ss) rest (after_stats ss j (from_exps source es rest) h))

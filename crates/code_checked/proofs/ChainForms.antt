-- The code of a chain of `..` is a piece, where the code of its operands is.
use Rattle.std.proofs.Common.{◌≡◌, ℕ, suc, ◌+◌, ◌<◌, ◌≤◌, ◌^◌, lit<, Bool, true, false, cond, ◌&&◌, List, [], ◌∷◌, ◌++◌, length, Option, refl, sym, ap, ◌∙◌, subst, arith, append_assoc}
use Rattle.std.specs.Prelude.{nat_eq}
use Rattle.tree_core.specs.declared.operator.BinOp.{BinOp}
use Rattle.tree_core.specs.declared.operator.BinOp.TheVariants.{Concat as Join}
use Rattle.tree_core.specs.Tree.{Exp, Binary}
use Rattle.code_core.specs.declared.opcode.Opcode.TheVariants.{Concat}
use Rattle.code_core.specs.declared.proto.Const.{Const}
use Rattle.code_core.specs.Prototype.{Prototype, Prototypes}
use Rattle.code_of.specs.Coded.{with_abc}
use Rattle.code_of.specs.Constants.{with_any, of_exp}
use Rattle.code_of.specs.ConstantOperands.{constant_of}
use Rattle.code_of.specs.Operands.{joins}
use Rattle.code_of.specs.Operations.{constant_in, operation_code}
use Rattle.code_of.specs.Chains.{continues, links, unjoined, chain_code}
use Rattle.code_of.specs.Expressions.{made_by, exp_code}
use Rattle.code_of.specs.CodeOf.{from_exp}
use Rattle.code_of.proofs.Chains.{link_form, continues_more, unjoined_more}
use Rattle.code_checked.specs.Near.{ExpIsNear}
use Rattle.code_checked.proofs.Pieces.{closed, Piece, both}
use Rattle.code_checked.proofs.Words.{simple, simple_concat}
use Rattle.code_checked.proofs.Found.{Grows, grows_then, grows_any}
use Rattle.code_checked.proofs.Loads.{Whole, Functions}
use Rattle.code_checked.proofs.Seams.{alike}
use Rattle.code_checked.proofs.Growing.{grows_exp, after_exp}
use Rattle.code_checked.proofs.ExpForms.{ExpLaw, OneLaw, exp_register, binary_direct}

-- the field of CONCAT fits

link_near : (t l : ℕ) (b : Bool) → t + 1 + l + 1 < 2 ^ 8 → t + 2 < 2 ^ 8 → t + cond b (suc l) 1 + 1 < 2 ^ 8
link_near t l true rest r = omega (arith, rest)
link_near t l false rest r = omega (arith, r)

links_near : (source : Option (List ℕ)) (p : Prototype) (line : ℕ) (d : Exp) (size t : ℕ) → ExpIsNear source p d size t → t + links line d + 1 < 2 ^ 8
links_near source p line (Binary own op e d) size t near = link_near t (links line d) (joins op && nat_eq own line) (links_near source p line d size (t + 1) near.1.1) near.0
links_near source p line d size t near = let r = exp_register source p d size t near in omega (arith, r)

module _ (p : Prototype) (W : Whole p) (source : Option (List ℕ)) (H : Type 0) where
  -- a right operand, without the CONCAT of a chain that goes on
  abbrev pub ChainLaw : (line : ℕ) → Exp → Type 0
  ChainLaw line d =
      (t j pc size : ℕ) (cs : List Const) (rest : Prototypes) → ExpIsNear source p d size t → size ≤ t → Grows (of_exp d cs) p.own.constants → Functions p j (from_exp source d rest)
      → Piece p H closed closed pc (unjoined (continues line d) (exp_code p.own.constants d t j 2))

  -- whatever the line
  abbrev pub ChainsLaw : Exp → Type 0
  ChainsLaw d = (line : ℕ) → ChainLaw line d

  pub chain_end : (d : Exp) → OneLaw p W source H d → (line : ℕ) → continues line d ≡ false → ChainLaw line d
  chain_end d one line ends t j pc size cs rest near le g fs =
      subst (λ b. Piece p H closed closed pc (unjoined b (exp_code p.own.constants d t j 2))) (sym ends) (one t j pc size cs rest near le g fs)

  -- both operands; `known` are the constants that are there once the first one is loaded
  operands_piece : (line : ℕ) (e d : Exp) → OneLaw p W source H e → ChainLaw line d → (t j pc size : ℕ) (cs known : List Const) (rest : Prototypes) → ExpIsNear source p e size t → ExpIsNear source p d size (t + 1) → size ≤ t
      → Grows (of_exp e cs) known → Grows (of_exp d known) p.own.constants → Functions p j (from_exp source e (from_exp source d rest))
      → Piece p H closed closed pc (exp_code p.own.constants e t j 2 ++ unjoined (continues line d) (exp_code p.own.constants d (t + 1) (j + made_by e) 2))
  operands_piece line e d one_e law_d t j pc size cs known rest near_e near_d le grown g fs =
      both p (one_e t j pc size cs (from_exp source d rest) near_e le (grows_then (of_exp e cs) known p.own.constants grown (grows_then known (of_exp d known) p.own.constants (grows_exp d known) g)) fs)
      (law_d (t + 1) (j + made_by e) (pc + length (exp_code p.own.constants e t j 2)) size known rest near_d (omega (arith, le)) g (after_exp source p e j (from_exp source d rest) fs))

  chain_more : (line : ℕ) (e d : Exp) → OneLaw p W source H e → ChainLaw line d → ChainLaw line (Binary line Join e d)
  chain_more line e d one_e law_d t j pc size cs rest near le g fs =
      let code = exp_code p.own.constants (Binary line Join e d) t j 2 in
      let is : unjoined (continues line (Binary line Join e d)) code ≡ exp_code p.own.constants e t j 2 ++ unjoined (continues line d) (exp_code p.own.constants d (t + 1) (j + made_by e) 2) =
      ap (λ b. unjoined b code) (continues_more line e d) ∙ unjoined_more p.own.constants line e d t j 2 in
      alike p (sym is)
      (operands_piece line e d one_e law_d t j pc size cs (with_any (constant_of Join d) (of_exp e cs)) rest near.1.0 near.1.1 le (grows_any (constant_of Join d) (of_exp e cs)) g fs)

  pub chain_binary : (own : ℕ) (op : BinOp) (e d : Exp) → OneLaw p W source H e → ChainsLaw d → OneLaw p W source H (Binary own op e d) → ChainsLaw (Binary own op e d)
  chain_binary own op e d one_e law_d one line = by (continues line (Binary own op e d)) refl
    where
      by : (b : Bool) → continues line (Binary own op e d) ≡ b → ChainLaw line (Binary own op e d)
      by false ends = chain_end (Binary own op e d) one line ends
      by true more = subst (ChainLaw line) (sym (link_form line own op e d more)) (chain_more line e d one_e (law_d line))

  pub binary_form : (line : ℕ) (op : BinOp) (e d : Exp) → OneLaw p W source H e → OneLaw p W source H d → ChainLaw line d → ExpLaw p W source H (Binary line op e d)
  binary_form line op e d one_e one_d law_d t j c pc size cs rest near le cf g fs = by (joins op)
    where
      joined : Piece p H closed closed pc (chain_code line d (exp_code p.own.constants e t j 2) (exp_code p.own.constants d (t + 1) (j + made_by e) 2) t)
      joined =
          let r = near.0 in
          let few = links_near source p line d size (t + 1) near.1.1 in
          let first = exp_code p.own.constants e t j 2 in
          let second = unjoined (continues line d) (exp_code p.own.constants d (t + 1) (j + made_by e) 2) in
          alike p (append_assoc first second (with_abc Concat t (suc (links line d)) 0 line ∷ []))
          (both p (operands_piece line e d one_e law_d t j pc size cs (with_any (constant_of op d) (of_exp e cs)) rest near.1.0 near.1.1 le (grows_any (constant_of op d) (of_exp e cs)) g fs)
          (simple p Concat (simple_concat p) t (suc (links line d)) 0 line (omega (arith, r)) (omega (arith, few)) (lit< tt)))

      by : (b : Bool)
          → Piece p H closed closed pc (cond b (chain_code line d (exp_code p.own.constants e t j 2) (exp_code p.own.constants d (t + 1) (j + made_by e) 2) t)
          (operation_code (constant_in p.own.constants op d) op e d (exp_code p.own.constants e t j 2) (exp_code p.own.constants d (t + 1) (j + made_by e) 2) t t line))
      by true = joined
      by false = let r = near.0 in binary_direct p W source H line op e d one_e one_d t t j pc size cs rest (omega (arith, r)) near le g fs

-- Chains of `..`: what their operands are, and how long their code is and how many registers it takes.
use Rattle.std.proofs.Common.{◌≡◌, ℕ, suc, ◌+◌, ◌-◌, ◌≤◌, max, Bool, true, false, cond, List, [], ◌∷◌, ◌++◌, length, Option, Some, None, refl, sym, ap, ap₂, ◌∙◌, subst, arith, append_assoc, length-append, length-take, ◌&&◌}
use Rattle.std.specs.Prelude.{nat_eq}
use Rattle.int_core.specs.Value.{without_last}
use Rattle.tree_core.specs.declared.operator.BinOp.{BinOp}
use Rattle.tree_core.specs.declared.operator.BinOp.TheVariants.{Concat as Join}
use Rattle.tree_core.specs.Tree.{Exp, Binary}
use Rattle.code_core.specs.declared.opcode.Opcode.TheVariants.{Concat}
use Rattle.code_core.specs.declared.proto.Const.{Const}
use Rattle.code_core.proofs.CheckedLemmas.{both}
use Rattle.list_laws.proofs.Ends.{without_last_is}
use Rattle.list_laws.proofs.Tests.{eq_refl, eq_true}
use Rattle.code_of.specs.Coded.{Coded, with_abc}
use Rattle.code_of.specs.ConstantOperands.{constant_by}
use Rattle.code_of.specs.Operands.{joins, first_of, operands_room}
use Rattle.code_of.specs.Operations.{constant_in, operation_room}
use Rattle.code_of.specs.Chains.{continues, links, unjoined, chain_code}
use Rattle.code_of.specs.Expressions.{made_by, exp_code}
use Rattle.code_of.specs.Rooms.{room_of}
use Rattle.code_of.proofs.Operands.{joins_made}
use Rattle.code_of.proofs.Operations.{constant_is, operand_form}

pub joins_is : (op : BinOp) → joins op ≡ true → op ≡ Join
joins_is Join h = refl
joins_is _ h = absurd (cc)

-- a right operand that goes on with the chain

pub link_form : (line own : ℕ) (op : BinOp) (e d : Exp) → continues line (Binary own op e d) ≡ true → Binary own op e d ≡ Binary line Join e d
link_form line own op e d h =
    let two = both (joins op) (nat_eq own line) h in
    ap₂ (λ m o. Binary m o e d) (eq_true own line two.1) (joins_is op two.0)

record IsLink (line : ℕ) (d : Exp) : Type 0 where
  left : Exp
  right : Exp
  is : d ≡ Binary line Join left right

link_is : (line : ℕ) (d : Exp) → continues line d ≡ true → IsLink line d
link_is line (Binary own op e d) h = record { left = e; right = d; is = link_form line own op e d h }
link_is line _ h = absurd (cc)

pub continues_more : (line : ℕ) (e d : Exp) → continues line (Binary line Join e d) ≡ true
continues_more line e d = ap (λ b. true && b) (eq_refl line)

pub links_more : (line : ℕ) (e d : Exp) → links line (Binary line Join e d) ≡ suc (links line d)
links_more line e d = ap (λ b. cond (true && b) (suc (links line d)) 1) (eq_refl line)

pub links_end : (line : ℕ) (d : Exp) → continues line d ≡ false → links line d ≡ 1
links_end line (Binary own op e d) h = ap (λ b. cond b (suc (links line d)) 1) h
links_end line _ h = refl

pub links_some : (line : ℕ) (d : Exp) → 1 ≤ links line d
links_some line d = by (continues line d) refl
  where
    by : (b : Bool) → continues line d ≡ b → 1 ≤ links line d
    by true h =
        let f = link_is line d h in
        let more = links_more line f.left f.right in
        let few : 1 ≤ links line (Binary line Join f.left f.right) = omega (arith, more) in
        subst (λ x. 1 ≤ links line x) (sym f.is) few
    by false h = let one = links_end line d h in omega (arith, one)

-- its code, without its CONCAT

module _ (cs : List Const) where
  pub unjoined_more : (line : ℕ) (e d : Exp) (t j c : ℕ)
      → unjoined true (exp_code cs (Binary line Join e d) t j c) ≡ exp_code cs e t j 2 ++ unjoined (continues line d) (exp_code cs d (t + 1) (j + made_by e) 2)
  unjoined_more line e d t j c =
      let first = exp_code cs e t j 2 in
      let rest = unjoined (continues line d) (exp_code cs d (t + 1) (j + made_by e) 2) in
      let last = with_abc Concat t (suc (links line d)) 0 line in
      ap (λ code. without_last code) (sym (append_assoc first rest (last ∷ []))) ∙ without_last_is (first ++ rest) last

  joined_more : (line : ℕ) (e d : Exp) (t j c : ℕ)
      → exp_code cs (Binary line Join e d) t j c ≡ unjoined true (exp_code cs (Binary line Join e d) t j c) ++ with_abc Concat t (links line (Binary line Join e d)) 0 line ∷ []
  joined_more line e d t j c =
      let first = exp_code cs e t j 2 in
      let rest = unjoined (continues line d) (exp_code cs d (t + 1) (j + made_by e) 2) in
      sym (append_assoc first rest (with_abc Concat t (suc (links line d)) 0 line ∷ []))
      ∙ ap₂ (λ code n. code ++ with_abc Concat t n 0 line ∷ []) (sym (unjoined_more line e d t j c)) (sym (links_more line e d))

  -- the whole code is this and the CONCAT
  pub joined_last : (line : ℕ) (d : Exp) (t j c : ℕ) → continues line d ≡ true → exp_code cs d t j c ≡ unjoined true (exp_code cs d t j c) ++ with_abc Concat t (links line d) 0 line ∷ []
  joined_last line d t j c h =
      let f = link_is line d h in
      subst (λ x. exp_code cs x t j c ≡ unjoined true (exp_code cs x t j c) ++ with_abc Concat t (links line x) 0 line ∷ []) (sym f.is) (joined_more line f.left f.right t j c)

-- sizes

unjoined_short : (more : Bool) (code : List Coded) → length (unjoined more code) ≤ length code
unjoined_short true code = let h = length-take (length code - 1) code in omega (arith, h)
unjoined_short false code = omega arith

pub chain_short : (line : ℕ) (d : Exp) (first second : List Coded) (t : ℕ) → length (chain_code line d first second t) ≤ length first + (length second + 1)
chain_short line d first second t =
    let rest = unjoined (continues line d) second in
    let last = with_abc Concat t (suc (links line d)) 0 line ∷ [] in
    let a = length-append first (rest ++ last) in
    let b = length-append rest last in
    let few = unjoined_short (continues line d) second in
    omega (arith, a, b, few)

-- registers: both operands are made, the second one above the first

join_has_none : (op : BinOp) (d : Exp) (x : Const) → joins op ≡ true → constant_by op d ≡ Some x → ⊥
join_has_none Join d x joined h = absurd (cc)
join_has_none _ d x joined h = absurd (cc)

pub join_room : (cs : List Const) (own : ℕ) (op : BinOp) (e d : Exp) (first second : ℕ) → joins op ≡ true → operation_room own (constant_in cs op d) op e d first second ≡ max first (1 + second)
join_room cs own op e d first second joined = by (constant_in cs op d) refl
  where
    by : (o : Option ℕ) → constant_in cs op d ≡ o → operation_room own o op e d first second ≡ max first (1 + second)
    by (Some number) is =
        let f = constant_is cs op d number is in
        absurd (join_has_none op d f.value joined (operand_form op d f.value f.is))
    by None is = ap (λ s. operands_room own s (first_of s e) first second) (joins_made op d joined)

-- a chain takes a register for each of its operands at least

link_room : (cs : List Const) (line own : ℕ) (op : BinOp) (e d : Exp) → ((e : Exp) → 1 ≤ room_of cs e 2) → links line d ≤ room_of cs d 2 → (b : Bool) → (joins op && nat_eq own line) ≡ b
    → cond b (suc (links line d)) 1 ≤ room_of cs (Binary own op e d) 2
link_room cs line own op e d some rest true h =
    let room = join_room cs 1 op e d (room_of cs e 2) (room_of cs d 2) (both (joins op) (nat_eq own line) h).0 in
    omega (arith, room, rest)
link_room cs line own op e d some rest false h = some (Binary own op e d)

pub links_room : (cs : List Const) (line : ℕ) (d : Exp) → ((e : Exp) → 1 ≤ room_of cs e 2) → links line d ≤ room_of cs d 2
links_room cs line (Binary own op e d) some = link_room cs line own op e d some (links_room cs line d some) (joins op && nat_eq own line) refl
links_room cs line d some = some d

-- Chains of `..`: what is written of a right operand, by whether it goes on with the chain.
use Rattle.std.proofs.Common.{◌≡◌, ℕ, suc, ◌+◌, true, false, cond, ◌&&◌, [], ◌∷◌, ◌++◌, sym, ap, ap₂, ◌∙◌, append_assoc}
use Rattle.std.specs.Prelude.{nat_eq}
use Rattle.tree_core.specs.declared.operator.BinOp.{BinOp}
use Rattle.tree_core.specs.declared.operator.BinOp.TheVariants.{Concat as Join}
use Rattle.tree_core.specs.Tree.{Exp, Binary}
use Rattle.code_core.specs.declared.opcode.Opcode.TheVariants.{Concat}
use Rattle.code_of.specs.Coded.{with_abc}
use Rattle.code_of.specs.Chains.{continues, links, unjoined, chain_code}
use Rattle.code_of.specs.Expressions.{made_by, exp_code}
use Rattle.code_of.specs.Operands.{joins}
use Rattle.code_of.specs.Operations.{constant_in, operation_code}
use Rattle.code_of.proofs.Chains.{link_form, links_end, continues_more, unjoined_more}
use Rattle.code_emitter.specs.Listing.{Listing, listed, followed}
use Rattle.code_emitter.proofs.Joining.{then_listed}

-- a tree that is another one
pub whole_written : (s q : Listing) (e x : Exp) (t c : ℕ) → e ≡ x → q ≡ followed s (exp_code s.constants e t s.made c) (made_by e) → q ≡ followed s (exp_code s.constants x t s.made c) (made_by x)
whole_written s q e x t c is written = written ∙ ap (λ y. followed s (exp_code s.constants y t s.made c) (made_by y)) is

-- a chain is what a `..` is compiled to
pub chain_is_binary : (s q : Listing) (line : ℕ) (op : BinOp) (e d : Exp) (t : ℕ) → joins op ≡ true
    → q ≡ followed s (chain_code line d (exp_code s.constants e t s.made 2) (exp_code s.constants d (t + 1) (s.made + made_by e) 2) t) (made_by e + made_by d)
    → q ≡ followed s (exp_code s.constants (Binary line op e d) t s.made 2) (made_by (Binary line op e d))
chain_is_binary s q line op e d t joined written =
    let first = exp_code s.constants e t s.made 2 in
    let second = exp_code s.constants d (t + 1) (s.made + made_by e) 2 in
    written
    ∙ ap (λ b. followed s (cond b (chain_code line d first second t) (operation_code (constant_in s.constants op d) op e d first second t t line)) (made_by e + made_by d)) (sym joined)

-- a `..` on the line of the chain
module _ (line own : ℕ) (op : BinOp) (e d x : Exp) (is : x ≡ Binary own op e d) (more : (joins op && nat_eq own line) ≡ true) where
  same : x ≡ Binary line Join e d
  same = is ∙ link_form line own op e d more

  pub link_written : (s q : Listing) (t : ℕ)
      → q ≡ followed s (exp_code s.constants e t s.made 2 ++ unjoined (continues line d) (exp_code s.constants d (t + 1) (s.made + made_by e) 2)) (made_by e + made_by d)
      → q ≡ followed s (unjoined (continues line x) (exp_code s.constants x t s.made 2)) (made_by x)
  link_written s q t written =
      let parts = exp_code s.constants e t s.made 2 ++ unjoined (continues line d) (exp_code s.constants d (t + 1) (s.made + made_by e) 2) in
      let here : unjoined (continues line (Binary line Join e d)) (exp_code s.constants (Binary line Join e d) t s.made 2) ≡ parts =
      ap (λ b. unjoined b (exp_code s.constants (Binary line Join e d) t s.made 2)) (continues_more line e d) ∙ unjoined_more s.constants line e d t s.made 2 in
      written ∙ ap₂ (followed s) (sym (ap (λ y. unjoined (continues line y) (exp_code s.constants y t s.made 2)) same ∙ here)) (sym (ap made_by same))

  pub link_counted : (n : ℕ) → n ≡ suc (links line d) → n ≡ links line x
  link_counted n counted = counted ∙ sym (ap (links line) is ∙ ap (λ b. cond b (suc (links line d)) 1) more)

-- an operand that ends the chain
module _ (line : ℕ) (x : Exp) (ends : continues line x ≡ false) where
  pub last_written : (s q : Listing) (t : ℕ) → q ≡ followed s (exp_code s.constants x t s.made 2) (made_by x) → q ≡ followed s (unjoined (continues line x) (exp_code s.constants x t s.made 2)) (made_by x)
  last_written s q t written = written ∙ ap (λ b. followed s (unjoined b (exp_code s.constants x t s.made 2)) (made_by x)) (sym ends)

  pub last_counted : (n : ℕ) → n ≡ 1 → n ≡ links line x
  last_counted n counted = counted ∙ sym (links_end line x ends)

-- a `..` on another line, or another operator
pub apart_ends : (line own : ℕ) (op : BinOp) (e d x : Exp) → x ≡ Binary own op e d → (joins op && nat_eq own line) ≡ false → continues line x ≡ false
apart_ends line own op e d x is apart = ap (continues line) is ∙ apart

-- the operands are written, and then the instruction that joins them
pub joined_written : (s r q : Listing) (line : ℕ) (e d : Exp) (t n : ℕ)
    → r ≡ followed s (exp_code s.constants e t s.made 2 ++ unjoined (continues line d) (exp_code s.constants d (t + 1) (s.made + made_by e) 2)) n
    → q ≡ listed r (with_abc Concat t (suc (links line d)) 0 line ∷ [])
    → q ≡ followed s (chain_code line d (exp_code s.constants e t s.made 2) (exp_code s.constants d (t + 1) (s.made + made_by e) 2) t) n
joined_written s r q line e d t n written put =
    let first = exp_code s.constants e t s.made 2 in
    let rest = unjoined (continues line d) (exp_code s.constants d (t + 1) (s.made + made_by e) 2) in
    let last = with_abc Concat t (suc (links line d)) 0 line ∷ [] in
    then_listed s r q (first ++ rest) n (λ k. last) written put ∙ ap (λ code. followed s code n) (append_assoc first rest last)

-- The line of a body, and of a plain tree; an expression of two operands; what no chain goes on with; a vector that is not one of one expression.
use Rattle.std.proofs.Common.{◌≡◌, ℕ, false, List, [], ◌∷◌, length, None, Box, Global, refl, sym, ap, ap₂, ◌∙◌}
use Rattle.tree_core.specs.declared.operator.BinOp.{BinOp}
use Rattle.tree_core.specs.declared.tree.Exp.{Exp}
use Rattle.tree_core.specs.declared.tree.ExpNode.{ExpNode, Nil, Binary, Binary'}
use Rattle.tree_core.specs.declared.tree.Body.{Body, out-Body}
use Rattle.tree_core.specs.Tree as tree
use Rattle.tree_core.specs.Plain.{plain_exp, plain_exps, plain_exp_node, plain_body}
use Rattle.tree_core.proofs.Rows.{plain-body}
use Rattle.tree_terms.specs.Bodies.{line_of_body}
use Rattle.code_of.specs.Chains.{continues}
use Rattle.code_of.specs.Operands.{lone_local}
use Rattle.code_of.specs.Truths.{line_of}

pub body_line : (b : Body) → line_of_body (plain_body b) ≡ (out-Body b).line
body_line b = ap line_of_body (plain-body b)

-- the line of a plain tree
pub line_is : (node : ExpNode) (line : ℕ) → line_of (plain_exp_node node line) ≡ line
line_is Nil line = refl
line_is _ line = refl

-- an operator between operands that are given as others
pub binary_plain : (x : Exp) (op : BinOp) (left right : Box Exp Global) (e d : Exp) → x.node ≡ Binary op left right → e ≡ left.value → d ≡ right.value → plain_exp x ≡ tree.Binary x.line op (plain_exp e) (plain_exp d)
binary_plain x op left right e d is first second = ap (λ node. plain_exp_node node x.line) is ∙ ap₂ (λ y z. tree.Binary x.line op (plain_exp y) (plain_exp z)) (sym first) (sym second)

-- what is no operator goes on with no chain
pub no_chain : (line own : ℕ) (node : ExpNode) → ((op : BinOp) (left right : Box Exp Global) → node ≡ Binary op left right → ⊥) → continues line (plain_exp_node node own) ≡ false
no_chain line own (Binary' op p l a q k b) other = absurd (other op _ _ refl)
no_chain line own _ other = refl

-- a vector of another number of expressions
pub none_lone : (xs : List Exp) → (length xs ≡ 1 → ⊥) → None ≡ lone_local (tree.exps (plain_exps xs))
none_lone [] h = refl
none_lone (x ∷ []) h = absurd (h refl)
none_lone (x ∷ y ∷ xs) h = refl

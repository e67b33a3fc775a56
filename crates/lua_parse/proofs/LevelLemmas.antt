-- From the operators that bind most to those of a level.
use Rattle.std.proofs.Common.{◌≡◌, ℕ, zero, suc, ◌+◌, ◌-◌, ◌<◌, ◌≤◌, List, refl, sym, ap, subst, ◌∙◌, arith, Err, true, false}
use Rattle.std.specs.Prelude.{nat_lt}
use Rattle.std.proofs.lemmas.Bool.Decides.{nat_tests}
use Rattle.tree_core.specs.Tree.{Exp}
use Rattle.lua_parse.specs.declared.fault.Fault.{Fault}
use Rattle.lua_parse.specs.declared.fault.Fault.TheVariants.{Refused, Memory}
use Rattle.lua_parse.specs.Answers.{Answers}
use Rattle.token_cursor.specs.declared.level.Level.{Level}
use Rattle.token_cursor.specs.declared.level.Level.TheVariants.{Or, And, Comparison, BitOr, BitXor, BitAnd, Shift, Concat, Sum, Product}
use Rattle.token_cursor.specs.Words.{Lexeme, first, may_join, rank, looser}
use Rattle.lua_parse.specs.Moves.{Piece, an_exp, chain, behind}
use Rattle.lua_parse.specs.Grammar.{expects, operand, operator_move}
use Rattle.lua_parse.specs.Reading.{Outcome, whole, stuck, Reads, within_stuck}
use Rattle.token_cursor.proofs.OperatorLemmas.{none_joins}
use Rattle.lua_parse.proofs.Steps.{Comes, Leads, starts, picked, turned, found, ended, into}

-- a level of this rank
of_rank : ℕ → Level
of_rank zero = Or
of_rank (suc zero) = And
of_rank (suc (suc zero)) = Comparison
of_rank (suc (suc (suc zero))) = BitOr
of_rank (suc (suc (suc (suc zero)))) = BitXor
of_rank (suc (suc (suc (suc (suc zero))))) = BitAnd
of_rank (suc (suc (suc (suc (suc (suc zero)))))) = Shift
of_rank (suc (suc (suc (suc (suc (suc (suc zero))))))) = Concat
of_rank (suc (suc (suc (suc (suc (suc (suc (suc zero)))))))) = Sum
of_rank (suc (suc (suc (suc (suc (suc (suc (suc (suc n))))))))) = Product

of_own_rank : (l : Level) → of_rank (rank l) ≡ l
unfolding of_rank
of_own_rank Or = refl
of_own_rank _ = refl

pub same_rank : (l m : Level) → rank l ≡ rank m → l ≡ m
same_rank l m e = sym (of_own_rank l) ∙ ap of_rank e ∙ of_own_rank m

-- the operands of the next level are the chains of this one
pub operand_looser : (l : Level) → 0 < rank l → operand (looser l) ≡ chain l
operand_looser Or h = absurd (omega (arith, h))
operand_looser _ h = refl

pub rank_looser : (l : Level) → rank (looser l) ≡ rank l - 1
rank_looser Or = refl
rank_looser _ = refl

-- a chain is read where its first operand and what is behind it are
pub chain_leads : (l : Level) (room : ℕ) (tokens rest : List Lexeme) (e : Exp) (height : ℕ) → Reads (expects room (operand l)) tokens (whole (an_exp e) height rest) → Leads (expects room (chain l)) tokens (expects room (behind l e height)) rest
chain_leads l room tokens rest e height r = into (found (starts (chain l) room tokens) r)

-- what is stuck in an operand is stuck in each chain round it
loosen : (n : ℕ) (l m : Level) (room : ℕ) (tokens rest : List Lexeme) → rank l ≡ rank m + n → Reads (expects room (operand l)) tokens (stuck rest) → Reads (expects room (chain m)) tokens (stuck rest)
loosen zero l m room tokens rest e r = subst (λ k. Reads (expects room (chain k)) tokens (stuck rest)) (same_rank l m (e ∙ omega arith)) (within_stuck r)
loosen (suc n) l m room tokens rest e r =
    let next : Reads (expects room (operand (looser l))) tokens (stuck rest) = subst (λ p. Reads (expects room p) tokens (stuck rest)) (sym (operand_looser l (omega (arith, e)))) (within_stuck r) in
    loosen n (looser l) m room tokens rest (rank_looser l ∙ omega (arith, e)) next

pub stuck_chain : (l m : Level) (room : ℕ) (tokens rest : List Lexeme) → rank m ≤ rank l → Reads (expects room (operand l)) tokens (stuck rest) → Reads (expects room (chain m)) tokens (stuck rest)
stuck_chain l m room tokens rest h r = loosen (rank l - rank m) l m room tokens rest (omega (arith, h)) r

-- an operand was not read
pub failed_chain : {A B : Type 0} {given : A → Piece × ℕ} {wanted : B → Piece × ℕ} {room : ℕ} {tokens rest : List Lexeme} (l m : Level) → rank m ≤ rank l → (fault : Fault) → Answers given (operand l) room tokens (Err fault) rest → Answers wanted (chain m) room tokens (Err fault) rest
failed_chain {room = room} {tokens = tokens} {rest = rest} l m h Refused r = record { tells = stuck_chain l m room tokens rest h r.tells }
failed_chain l m h Memory r = record { tells = tt }

-- what is behind an operand was not read
pub failed_operators : {A B : Type 0} {given : A → Piece × ℕ} {wanted : B → Piece × ℕ} {room : ℕ} {tokens between rest : List Lexeme} {e : Exp} {height : ℕ} (l m : Level) → rank m < rank l → Reads (expects room (operand l)) tokens (whole (an_exp e) height between) → (fault : Fault) → Answers given (behind l e height) room between (Err fault) rest → Answers wanted (chain m) room tokens (Err fault) rest
failed_operators {room = room} {tokens = tokens} {between = between} {rest = rest} {e = e} {height = height} l m h r Refused b =
    let here : Reads (expects room (chain l)) tokens (stuck rest) = (chain_leads l room tokens between e height r).leads (stuck rest) b.tells in
    let next : Reads (expects room (operand (looser l))) tokens (stuck rest) = subst (λ p. Reads (expects room p) tokens (stuck rest)) (sym (operand_looser l (omega (arith, h)))) here in
    record { tells = stuck_chain (looser l) m room tokens rest (omega (arith, h, rank_looser l)) next }
failed_operators l m h r Memory b = record { tells = tt }

-- an operand that no operator follows is all that is read of its level
alone : (l : Level) (room : ℕ) (tokens rest : List Lexeme) (e : Exp) (height : ℕ) → Comes rest → may_join (first rest).0 ≡ false → Reads (expects room (operand l)) tokens (whole (an_exp e) height rest) → Reads (expects room (chain l)) tokens (whole (an_exp e) height rest)
alone l room tokens rest e height comes h r =
    let nothing = turned (picked (starts (behind l e height) room rest) comes) (ap (operator_move room l e height (first rest).1) (none_joins l (first rest).0 h)) in
    (chain_leads l room tokens rest e height r).leads _ (ended nothing)

alone_round : (n : ℕ) (l m : Level) (room : ℕ) (tokens rest : List Lexeme) (e : Exp) (height : ℕ) → rank l ≡ rank m + n → Comes rest → may_join (first rest).0 ≡ false → Reads (expects room (operand l)) tokens (whole (an_exp e) height rest) → Reads (expects room (chain m)) tokens (whole (an_exp e) height rest)
alone_round zero l m room tokens rest e height is comes h r = subst (λ k. Reads (expects room (chain k)) tokens (whole (an_exp e) height rest)) (same_rank l m (is ∙ omega arith)) (alone l room tokens rest e height comes h r)
alone_round (suc n) l m room tokens rest e height is comes h r =
    let next : Reads (expects room (operand (looser l))) tokens (whole (an_exp e) height rest) = subst (λ p. Reads (expects room p) tokens (whole (an_exp e) height rest)) (sym (operand_looser l (omega (arith, is)))) (alone l room tokens rest e height comes h r) in
    alone_round n (looser l) m room tokens rest e height (rank_looser l ∙ omega (arith, is)) comes h next

-- it is all that is read of each level that binds less, too
pub alone_chain : (l m : Level) (room : ℕ) (tokens rest : List Lexeme) (e : Exp) (height : ℕ) → rank m ≤ rank l → Comes rest → may_join (first rest).0 ≡ false → Reads (expects room (operand l)) tokens (whole (an_exp e) height rest) → Reads (expects room (chain m)) tokens (whole (an_exp e) height rest)
alone_chain l m room tokens rest e height h = alone_round (rank l - rank m) l m room tokens rest e height (omega (arith, h))

-- the chain of a level is an operand of the next one
pub next_operand : (l k : Level) (room : ℕ) (tokens : List Lexeme) (o : Outcome) → k ≡ looser l → 0 < rank l → Reads (expects room (chain l)) tokens o → Reads (expects room (operand k)) tokens o
next_operand l k room tokens o e h r =
    subst (λ j. Reads (expects room (operand j)) tokens o) (sym e) (subst (λ p. Reads (expects room p) tokens o) (sym (operand_looser l h)) r)

pub at_most_product : (l : Level) → rank l ≤ 9
at_most_product Or = omega arith
at_most_product _ = omega arith

pub less : (a b : ℕ) → true ≡ nat_lt a b → a < b
less a b e = grind (arith, nat_tests)

pub not_less : (a b : ℕ) → false ≡ nat_lt a b → b ≤ a
not_less a b e = grind (arith, nat_tests)

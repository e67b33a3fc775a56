-- Each refusal has its cause, and a source that is refused is the source of no tree.
use Rattle.std.proofs.Common.{arith, ℕ, ◌<◌, ◌≤◌, ◌≡◌, ◌⊎◌, inl, inr, List, [], length, Contains, Result, Ok, Err, refl, subst, sym, ap, ◌∙◌}
use Rattle.std.proofs.lemmas.Bool.{cases_lt}
use Rattle.token_cursor.specs.Words.{Lexeme}
use Rattle.lua_lex.specs.Answers.{OnRefused}
use Rattle.lua_lex.specs.Lexical.{TokensOf, BadToken}
use Rattle.lua_lex.specs.declared.source.LexFault.{LexFault}
use Rattle.lua_lex.specs.declared.source.LexFault.TheVariants.{Refused as LexRefused, Limit as LexLimit, Memory as LexMemory}
use Rattle.lua_parse.specs.declared.fault.ParseFault.{ParseFault}
use Rattle.lua_parse.specs.declared.fault.ParseFault.TheVariants.{Refused as ParseRefused, Memory as ParseMemory}
use Rattle.lua_parse.specs.Answers.{Refuses}
use Rattle.lua_parse.specs.Reading.{Derives}
use Rattle.scope_core.specs.declared.resolved.ScopeFault.{ScopeFault}
use Rattle.scope_core.specs.declared.resolved.ScopeFault.TheVariants.{Refused as RuleBroken, Memory as RulesMemory}
use Rattle.scope_core.specs.declared.violation.Violation.{Violation}
use Rattle.scope_core.specs.Answers.{IsFaultOf}
use Rattle.scope_core.specs.Rules.{violations}
use Rattle.tree_core.specs.Tree.{Block}
use Rattle.compile_text.specs.Faults.{fault_of_lexer, fault_of_parser, fault_of_rules}
use Rattle.compile_text.specs.Source.{HasTree, bad_token, no_tree, breaks, too_long, IsRefused}

-- what the front told of a source
pub record IsRead (source : List ℕ) (tokens : List Lexeme) (tree : Block) : Type 0 where
  pub limited : length source ≤ 1048576
  pub lexed : TokensOf source tokens
  pub lexed_only : (other : List Lexeme) → TokensOf source other → other ≡ tokens
  pub derived : Derives tokens tree
  pub derived_only : (other : Block) → Derives tokens other → other ≡ tree

pub tree_there : (source : List ℕ) (tokens : List Lexeme) (tree : Block) → IsRead source tokens tree → HasTree source tree
tree_there source tokens tree r = record { limited = r.limited; tokens = tokens; lexed = r.lexed; derived = r.derived }

pub tree_only : (source : List ℕ) (tokens : List Lexeme) (tree : Block) → IsRead source tokens tree → (other : Block) → HasTree source other → other ≡ tree
tree_only source tokens tree r other h = r.derived_only other (subst (λ ts. Derives ts other) (r.lexed_only h.tokens h.lexed) h.derived)

-- a source that has tokens is not too long
pub not_over : {T : Type 0} (tokens : T) (n : ℕ) → (1048576 < n → ◌≡◌ {A = Result T LexFault} (Ok tokens) (Err LexLimit)) → n ≤ 1048576
not_over tokens n limit = elim (cases_lt 1048576 n) [
  | inl over ↦ absurd (let bad = limit over in cc)
  | inr short ↦ short
]

pub lexer_fault : (source : List ℕ) (fault : LexFault) → (length source ≤ 1048576) ⊎ (fault ≡ LexLimit) → (fault ≡ LexLimit → 1048576 < length source)
    → OnRefused {T = List Lexeme} (Err fault) (λ line. BadToken source line) → OnRefused {T = List Lexeme} (Err fault) (λ line. (list : List Lexeme) → TokensOf source list → ⊥) → IsRefused source (fault_of_lexer fault)
lexer_fault source (LexRefused line) (inl short) over bad none = record { none = λ tree s. none s.has_tree.tokens s.has_tree.lexed; cause = (short, bad_token bad) }
lexer_fault source (LexRefused line) (inr e) over bad none = absurd (cc)
lexer_fault source LexLimit short over bad none = let l = over refl in record { none = λ tree s. let m = s.has_tree.limited in absurd (omega (arith, l, m)); cause = too_long l refl refl }
lexer_fault source LexMemory short over bad none = tt

pub parser_fault : (source : List ℕ) (tokens : List Lexeme) (fault : ParseFault) → length source ≤ 1048576 → TokensOf source tokens → ((other : List Lexeme) → TokensOf source other → other ≡ tokens) → Refuses tokens fault
    → IsRefused source (fault_of_parser fault)
parser_fault source tokens (ParseRefused line) short lexed only r = record {
  none = λ tree s. r.no_tree tree (subst (λ ts. Derives ts tree) (only s.has_tree.tokens s.has_tree.lexed) s.has_tree.derived);
  cause = (short, no_tree tokens lexed r);
}
parser_fault source tokens ParseMemory short lexed only r = tt

pub rules_fault : (source : List ℕ) (tokens : List Lexeme) (tree : Block) (fault : ScopeFault) → IsRead source tokens tree → IsFaultOf tree fault → IsRefused source (fault_of_rules fault)
rules_fault source tokens tree (RuleBroken rule line) r least = record {
  none = λ other s. none_contained (record { line = line; rule = rule }) (subst (λ vs. Contains vs (record { line = line; rule = rule })) (ap violations (sym (tree_only source tokens tree r other s.has_tree)) ∙ s.lawful) least.there);
  cause = breaks tree (tree_there source tokens tree r) least;
}
  where
    none_contained : (v : Violation) → Contains [] v → ⊥
    none_contained v h = let l : h.0 < 0 = h.1 in absurd (omega (arith, l))
rules_fault source tokens tree RulesMemory r least = tt

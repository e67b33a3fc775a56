-- A source that the laws are about, so that their premises are no empty ones: its tokens, its tree, and that the tree keeps the rules.
use Rattle.std.proofs.Common.{◌≡◌, ℕ, List, [], ◌∷◌, None, refl}
use Rattle.std.specs.Prelude.{codes}
use Rattle.tree_core.specs.Tree.{Block, Falls, Do, EndStats, MoreStats}
use Rattle.lua_lex.specs.declared.token.Token.TheVariants.{Keyword, End}
use Rattle.lua_lex.specs.Lexical.{kind_of, nothing, piece, ends, goes_on, TokensOf}
use Rattle.lua_lex.specs.Words.{keywords}
use Rattle.token_cursor.specs.Words.{Lexeme}
use Rattle.lua_parse.specs.Moves.{a_line, a_stat, a_block, some_items, do_block}
use Rattle.lua_parse.specs.Grammar.{expects}
use Rattle.lua_parse.specs.Reading.{whole, Reads, picks, passes, is_whole, within_whole, Derives}
use Rattle.scope_core.specs.Rules.{violations}

abbrev pub source : List ℕ
source = codes "do end"

abbrev pub last : List Lexeme
last = (End, 1) ∷ []

abbrev pub tokens : List Lexeme
tokens = (Keyword 2, 1) ∷ (Keyword 5, 1) ∷ last

pub has_tokens : TokensOf source tokens
unfolding kind_of keywords
has_tokens =
    goes_on (codes "do end") (codes " end") (Keyword 2) ((Keyword 5, 1) ∷ last) nothing (refl, refl)
    (goes_on (codes "end") [] (Keyword 5) last (piece refl nothing) (refl, refl) (ends nothing))

abbrev pub inner : Block
inner = Falls EndStats 0 1

abbrev pub tree : Block
tree = Falls (MoreStats (Do 1 inner) EndStats) 2 1

do_reads : Reads (expects 400 do_block) tokens (whole (a_block inner) 1 last)
do_reads =
    within_whole (a_line 1) 0 ((Keyword 5, 1) ∷ last) (picks (passes is_whole))
    (within_whole (a_block inner) 0 ((Keyword 5, 1) ∷ last) (within_whole (some_items [] None 1) 0 ((Keyword 5, 1) ∷ last) (picks is_whole) is_whole)
    (within_whole (a_line 1) 0 last (picks (passes is_whole)) is_whole))

pub has_tree : Derives tokens tree
has_tree =
    record {
      height = 1;
      reads =
          within_whole (a_block tree) 1 last
          (within_whole (some_items (Do 1 inner ∷ []) None 1) 1 last
          (picks (within_whole (a_stat (Do 1 inner)) 1 last (picks (within_whole (a_stat (Do 1 inner)) 1 last (picks (within_whole (a_block inner) 1 last do_reads is_whole)) is_whole))
          (within_whole (some_items (Do 1 inner ∷ []) None 1) 1 last (picks is_whole) is_whole)))
          is_whole)
          (picks (passes is_whole));
    }

pub keeps_rules : violations tree ≡ []
keeps_rules = refl

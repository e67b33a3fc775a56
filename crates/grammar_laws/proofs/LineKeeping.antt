-- What is read has only lines of tokens: what is claimed of each token, of each piece, and of what stands before a part.
use Rattle.std.proofs.Common.{ℕ, ◌≤◌}
use Rattle.std.specs.Prelude.{IfSome}
use Rattle.tree_core.specs.Tree as tree
use Rattle.token_cursor.specs.Words.{Lexeme}
use Rattle.lua_parse.specs.Moves.{Piece, a_line, a_name, some_names, some_params, a_declared, some_declared, an_exp, maybe_exp, some_exps, a_field, some_fields, a_target, an_arm, some_arms, some_items, a_stat, a_block, maybe_block, a_body, Part, body, params, more_params, items, numeric, generic, more_names, local_function, local_names, more_declared, assignment, Move}
use Rattle.grammar_laws.specs.Lines.{NamesAreWithin, DeclaredIsWithin, DeclaredAreWithin, ExpIsWithin, ExpsAreWithin, FieldsAreWithin, FieldIsWithin, StatIsWithin, ArmsAreWithin, StatsAreWithin, BlockIsWithin, BodyIsWithin}
use Rattle.grammar_laws.proofs.Fronts.{front}
use Rattle.grammar_laws.proofs.Walk.{Keeps}

module _ (most : ℕ) where
  abbrev pub IsWithin : Piece → Type 0
  IsWithin (a_line line) = line ≤ most
  IsWithin (a_name x) = x.line ≤ most
  IsWithin (some_names xs) = NamesAreWithin most xs
  IsWithin (some_params xs vararg) = NamesAreWithin most xs
  IsWithin (a_declared d) = DeclaredIsWithin most d
  IsWithin (some_declared ds) = DeclaredAreWithin most ds
  IsWithin (an_exp e) = ExpIsWithin most e
  IsWithin (maybe_exp e) = IfSome e (ExpIsWithin most)
  IsWithin (some_exps es) = ExpsAreWithin most (tree.exps es)
  IsWithin (a_field f) = FieldIsWithin most f
  IsWithin (some_fields fs) = FieldsAreWithin most (tree.fields fs)
  IsWithin (a_target e own) = ExpIsWithin most e × NamesAreWithin most own
  IsWithin (an_arm e b) = ExpIsWithin most e × BlockIsWithin most b
  IsWithin (some_arms as') = ArmsAreWithin most (tree.arms as')
  IsWithin (some_items ss es line) = (line ≤ most) × StatsAreWithin most (tree.stats ss) × IfSome es (λ xs. ExpsAreWithin most (tree.exps xs))
  IsWithin (a_stat s) = StatIsWithin most s
  IsWithin (a_block b) = BlockIsWithin most b
  IsWithin (maybe_block b) = IfSome b (BlockIsWithin most)
  IsWithin (a_body b) = BodyIsWithin most b

  -- what stands before a part
  abbrev pub StandsWithin : Part → Type 0
  StandsWithin (body line own) = (line ≤ most) × NamesAreWithin most own
  StandsWithin (params own) = NamesAreWithin most own
  StandsWithin (more_params xs) = NamesAreWithin most xs
  StandsWithin (items ss height) = StatsAreWithin most (tree.stats ss)
  StandsWithin (numeric line x) = (line ≤ most) × (x.line ≤ most)
  StandsWithin (generic line x) = (line ≤ most) × (x.line ≤ most)
  StandsWithin (more_names xs) = NamesAreWithin most xs
  StandsWithin (local_function line) = line ≤ most
  StandsWithin (local_names line) = line ≤ most
  StandsWithin (more_declared ds) = DeclaredAreWithin most ds
  StandsWithin (assignment line first height) = (line ≤ most) × ExpIsWithin most first
  StandsWithin part = IfSome (front part) IsWithin

  abbrev pub TokenIsWithin : Lexeme → Type 0
  TokenIsWithin t = t.1 ≤ most

  abbrev pub FrontIsWithin : Part → ℕ → Type 0
  FrontIsWithin part room = StandsWithin part

  abbrev pub GivesWithin : Part → ℕ → Piece → Type 0
  GivesWithin part room p = IsWithin p

  abbrev pub Stays : Part → ℕ → Move → Type 0
  Stays part room move = Keeps TokenIsWithin FrontIsWithin GivesWithin part room move

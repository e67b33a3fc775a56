-- The tree of a source may be compiled, and what it is compiled to can be written.
use Rattle.std.proofs.Common.{ℕ, ◌≡◌, Bool, true, not, List, Some, length, refl, sym, subst, ◌∙◌, ap, pos}
use Rattle.std.specs.Prelude.{◌&&◌}
use Rattle.std.specs.List.{list_all}
use Rattle.std.proofs.lemmas.Bool.{and_parts}
use Rattle.tree_core.specs.Plain.{plain_body}
use Rattle.scope_core.specs.Places.{placed}
use Rattle.scope_core.specs.declared.resolved.Resolved.{Resolved}
use Rattle.code_core.specs.Prototype.{Prototype}
use Rattle.code_core.specs.Check.{IsChecked, none_or_one_per, is_line, lines_from}
use Rattle.code_core.specs.Writable.{Writable, is_writable}
use Rattle.code_of.specs.CodeOf.{code_of}
use Rattle.code_means.specs.Means.{Means}
use Rattle.compiler.specs.Source.{IsOfSource, name_where}
use Rattle.chunk_format.specs.Grammar.{ChunkOf}
use Rattle.chunk_format.specs.Spelling as spelled
use Rattle.compile_text.specs.Source.{IsTreeOf}
use Rattle.compile_chunk.specs.Chunk.{IsChunkOf, IsCodeOf}

pub of_source : (source : List ℕ) (resolved : Resolved) → IsTreeOf source resolved → IsOfSource resolved
of_source source resolved t = record {
  source = source;
  limited = t.is_source.has_tree.limited;
  tokens = t.is_source.has_tree.tokens;
  lexed = t.is_source.has_tree.lexed;
  tree = t.tree;
  derived = t.is_source.has_tree.derived;
  resolves = (t.is_source.lawful, t.placed_is);
}

pub writable : (p : Prototype) → IsChecked p → Writable p
writable p c = last_true (none_or_one_per (length p.own.line_info) (length p.own.code)) (list_all is_line (lines_from p.own.abs_lines 0 (Some (pos p.own.line_defined)) p.own.line_info)) (none_or_one_per (length p.own.up_names) (length p.own.upvalues)) (is_writable p) c.code.described
  where
    last_true : (a b c d : Bool) → (a && (b && (c && d))) ≡ true → d ≡ true
    last_true a b c d h = (and_parts c d (and_parts b (c && d) (and_parts a (b && (c && d)) h).1).1).1

pub code_made : (name source : List ℕ) (lines : Bool) (resolved : Resolved) (code : Prototype) → IsTreeOf source resolved
    → code ≡ code_of (name_where lines name) (plain_body resolved.main) → Means lines code (plain_body resolved.main) → IsCodeOf name source lines code
code_made name source lines resolved code t is means = record {
  tree = t.tree;
  is_source = t.is_source;
  code_is = is ∙ ap (code_of (name_where lines name)) t.placed_is;
  means = subst (λ body. Means lines code body) t.placed_is means;
}

pub chunk_made : (name source bytes : List ℕ) (strip : Bool) (code : Prototype) → IsCodeOf name source (not strip) code → IsChecked code → bytes ≡ spelled.chunk code → ChunkOf code bytes → IsChunkOf name source strip bytes
chunk_made name source bytes strip code c checked wrote fits =
    record { tree = c.tree; is_source = c.is_source; code = code; code_is = c.code_is; means = c.means; checked = checked; spelled = wrote; in_grammar = fits }

-- a source has one chunk under a name
pub chunk_once : (name source bytes : List ℕ) (strip : Bool) → IsChunkOf name source strip bytes → (bytes' : List ℕ) → IsChunkOf name source strip bytes' → bytes' ≡ bytes
chunk_once name source bytes strip a bytes' b =
    let trees : b.tree ≡ a.tree = a.is_source.only b.tree b.is_source.has_tree in
    let codes : b.code ≡ a.code = b.code_is ∙ ap (λ t. code_of (name_where (not strip) name) (placed t)) trees ∙ sym a.code_is in
    b.spelled ∙ ap spelled.chunk codes ∙ sym a.spelled

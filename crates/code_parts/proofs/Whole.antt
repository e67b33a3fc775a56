-- A prototype of what is written for a body has the parts that are defined for the body, with the low bits of each word.
use Rattle.std.proofs.Common.{◌≡◌, ℕ, List, [], ◌∷◌, length, map, Option, refl, ap, ◌∙◌}
use Rattle.tree_core.specs.Tree.{Block, Body, BodyOf}
use Rattle.code_core.specs.declared.instruction.Instruction.{Instruction}
use Rattle.code_core.specs.Prototype.{Parts}
use Rattle.code_of.specs.Coded.{Coded, words}
use Rattle.code_of.specs.Constants.{of_block}
use Rattle.code_of.specs.CodeOf.{body_code, where_known, changes, far_lines, variables_of, parts_of}
use Rattle.code_emitter.specs.Listing.{low, steps}
use Rattle.code_parts.specs.Assembled.{assembled, low_parts}
use Rattle.code_parts.proofs.Written.{room_written, lines_written}

words_written : (code : List Coded) → map (λ s. s.instruction) (steps code) ≡ map low (words code)
words_written [] = refl
words_written (x ∷ xs) = ap (λ ws. low x.0 ∷ ws) (words_written xs)

abbrev pub block_of : Body → Block
block_of (BodyOf params vararg inner ups line) = inner

-- the parts of a prototype by its code, its room and its lines
abbrev of_lists : Parts → (stack : ℕ) → List Instruction → (source : Option (List ℕ)) → (line : ℕ) → List ℕ → Parts
of_lists p stack code source line ls = record p { stack = stack; code = code; line_info = where_known source (changes line ls); abs_lines = where_known source (far_lines 0 line ls) }

pub assembled_whole : (source : Option (List ℕ)) (body : Body) → assembled source body (steps (body_code body)) (of_block (block_of body) []) (where_known source (variables_of body)) ≡ low_parts (parts_of source body)
assembled_whole source (BodyOf params vararg inner ups line) =
    let body = BodyOf params vararg inner ups line in
    let code = body_code body in
    let p = parts_of source body in
    ap (λ n. of_lists p n (map (λ s. s.instruction) (steps code)) source line (map (λ s. s.line) (steps code))) (room_written code (length params))
    ∙ ap (λ ws. of_lists p p.stack ws source line (map (λ s. s.line) (steps code))) (words_written code)
    ∙ ap (of_lists p p.stack (map low p.code) source line) (lines_written code)

-- where the words fit in 32 bits nothing is lost
pub low_same : (p : Parts) → map low p.code ≡ p.code → low_parts p ≡ p
low_same p fit = ap (λ code. record p { code = code }) fit

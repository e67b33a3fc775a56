-- The lines of a text that begins with bytes of which none is a line feed.
use Rattle.std.proofs.Common.{Option, None, Some, ◌≡◌, ◌≢◌, ◌<◌, ◌++◌, ◌==◌, ◌∷◌, ℕ, List, [], suc, refl, ap, arith, length, Bool, true, false, ◌∙◌}
use Rattle.std.specs.Bool.{if◌then◌else◌}
use Rattle.std.proofs.lemmas.Bool.Decides.{nat_tests}
use Rattle.io_edge.specs.Lines.{ahead, IsUnbroken, lengthened, lines_of}

-- a reader at the beginning of an input gives what the source has left
pub ahead-fresh : (left : Option (List ℕ)) → ahead record { pending = []; taken = 0 } left ≡ left
ahead-fresh None = refl
ahead-fresh (Some rest) = refl

-- what follows the first byte is unbroken too
unbroken_tail : (byte : ℕ) (bytes : List ℕ) → IsUnbroken (byte ∷ bytes) → IsUnbroken bytes
unbroken_tail byte bytes whole k d inside = whole (suc k) d (omega arith)

-- a byte that is no line feed goes to the line that follows it
lines_of-byte : (byte : ℕ) (bytes text : List ℕ) → IsUnbroken (byte ∷ bytes) → lines_of (byte ∷ text) ≡ lengthened byte (lines_of text)
unfolding lines_of
lines_of-byte byte bytes text unbroken =
    let no_feed : byte ≢ 10 = unbroken 0 0 (omega arith) in
    let test : (byte == 10) ≡ false = grind (arith, nat_tests) in
    rw test

-- an unbroken front of a text that a line feed follows is its first line
pub lines_of-ended : (line rest : List ℕ) → IsUnbroken line → lines_of (line ++ 10 ∷ rest) ≡ line ∷ lines_of rest
unfolding lines_of
lines_of-ended [] rest unbroken = refl
lines_of-ended (byte ∷ line) rest unbroken =
    lines_of-byte byte line (line ++ 10 ∷ rest) unbroken ∙ ap (lengthened byte) (lines_of-ended line rest (unbroken_tail byte line unbroken))

-- an unbroken text that isn't empty is one line
pub lines_of-last : (line : List ℕ) → IsUnbroken line → 0 < length line → lines_of line ≡ line ∷ []
unfolding lines_of
lines_of-last [] unbroken some = absurd (omega arith)
lines_of-last (byte ∷ []) unbroken some = lines_of-byte byte [] [] unbroken
lines_of-last (byte ∷ next ∷ line) unbroken some =
    lines_of-byte byte (next ∷ line) (next ∷ line) unbroken
    ∙ ap (lengthened byte) (lines_of-last (next ∷ line) (unbroken_tail byte (next ∷ line) unbroken) (omega arith))

-- the text has a first line that begins with this front
abbrev pub BeginsWith : List ℕ → List ℕ → Type 0
BeginsWith front text = (more : List ℕ) × (lines : List (List ℕ)) × (lines_of text ≡ (front ++ more) ∷ lines)

-- a text that isn't empty has a first line
first_of : (test : Bool) (byte : ℕ) (lines others : List (List ℕ)) → (line : List ℕ) × (rest : List (List ℕ)) × ((if test then [] ∷ others else lengthened byte lines) ≡ line ∷ rest)
first_of true byte lines others = ([], others, refl)
first_of false byte [] others = (byte ∷ [], [], refl)
first_of false byte (line ∷ lines) others = (byte ∷ line, lines, refl)

begins_some : (text : List ℕ) → 0 < length text → BeginsWith [] text
unfolding lines_of
begins_some [] some = absurd (omega arith)
begins_some (byte ∷ text) some = first_of (byte == 10) byte (lines_of text) (lines_of text)

begins_longer : (byte : ℕ) (front text : List ℕ) → IsUnbroken (byte ∷ front) → BeginsWith front text → BeginsWith (byte ∷ front) (byte ∷ text)
begins_longer byte front text unbroken begins =
    (begins.0, begins.1, lines_of-byte byte front text unbroken ∙ ap (lengthened byte) begins.2)

-- an unbroken front of a text begins its first line
pub lines_of-front : (front rest : List ℕ) → IsUnbroken front → 0 < length (front ++ rest) → BeginsWith front (front ++ rest)
unfolding lines_of
lines_of-front [] rest unbroken some = begins_some rest some
lines_of-front (byte ∷ []) [] unbroken some = ([], [], lines_of-byte byte [] [] unbroken)
lines_of-front (byte ∷ []) (next ∷ rest) unbroken some =
    begins_longer byte [] (next ∷ rest) unbroken (begins_some (next ∷ rest) (omega arith))
lines_of-front (byte ∷ next ∷ front) rest unbroken some =
    begins_longer byte (next ∷ front) ((next ∷ front) ++ rest) unbroken
    (lines_of-front (next ∷ front) rest (unbroken_tail byte (next ∷ front) unbroken) (omega arith))

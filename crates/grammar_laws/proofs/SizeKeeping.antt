-- What follows on a piece keeps the claims: each move of a production, from the claims on its parts.
use Rattle.std.proofs.Common.{◌≡◌, ℕ, ◌+◌, ◌≤◌, Bool, true, false, List, Option, Some, None, refl, arith}
use Rattle.std.specs.Prelude.{if◌then◌else◌}
use Rattle.tree_core.specs.Tree as tree
use Rattle.token_cursor.specs.Words.{Lexeme}
use Rattle.lua_parse.specs.Moves.{Piece, a_line, a_name, some_names, some_params, a_declared, some_declared, maybe_exp, some_exps, some_fields, some_items, maybe_block, Part, Move, pick, pass, refuse, within, gives}
use Rattle.lua_parse.specs.Grammar.{on_items, only, pass_if}
use Rattle.grammar_laws.proofs.Pieces.{follows, Asks, AsksTwo, by_items}
use Rattle.grammar_laws.proofs.Claims.{opens_function, Holds, HoldsAsArguments, HoldsAsFields, Claim, carried, written, IsReady}

-- of a token that is known, whether it is `function`
abbrev pub opened : Option Lexeme → ℕ
opened None = 0
opened (Some t) = opens_function t.0

-- n tokens were read, m of them `function`, and the next one may be known: in whatever way it goes on, the claim on the whole part holds
pub data Keeps (whole : Part) : Option Lexeme → Move → (n m : ℕ) → Type 0 where
  picks : {known : Option Lexeme} {by : Lexeme → Move} {n m : ℕ} → ((t : Lexeme) → Keeps whole (Some t) (by t) n m) → Keeps whole known (pick by) n m
  passes : {known : Option Lexeme} {next : Move} {n m : ℕ} → Keeps whole None next (n + 1) (m + opened known) → Keeps whole known (pass next) n m
  refuses : {known : Option Lexeme} {n m : ℕ} → Keeps whole known refuse n m
  reads : {known : Option Lexeme} {part : Part} {room : ℕ} {next : Piece → ℕ → ℕ → Move} {n m : ℕ} → IsReady part
      → ((p : Piece) (h k j : ℕ) → Claim part p (carried part + k) (written part + j) → Keeps whole None (next p h k) (n + k) (m + j))
      → Keeps whole known (within part room next) n m
  ends : {known : Option Lexeme} {piece : Piece} {height n m : ℕ} → Claim whole piece n m → Keeps whole known (gives piece height) n m

module _ {whole : Part} {known : Option Lexeme} {n m : ℕ} where
  -- tests

  pub either : {here other : Move} (b : Bool) → Keeps whole known here n m → Keeps whole known other n m → Keeps whole known (if b then here else other) n m
  either true h o = h
  either false h o = o

  pub either_by : {here other : Move} (b : Bool) → (b ≡ true → Keeps whole known here n m) → Keeps whole known other n m → Keeps whole known (if b then here else other) n m
  either_by true h o = h refl
  either_by false h o = o

  pub passes_if : {next : Move} (b : Bool) → (b ≡ true → Keeps whole None next (n + 1) (m + opened known)) → Keeps whole known (pass_if b next) n m
  passes_if true h = passes (h refl)
  passes_if false h = refuses

  -- a part, by the kind of its piece

  pub on_piece : {X : Type 0} {kind : X → Piece} {on : (X → Move) → Piece → Move} → Asks kind on → {part : Part} {room : ℕ} {next : X → ℕ → ℕ → Move} → IsReady part
      → ((x : X) (h k j : ℕ) → Claim part (kind x) (carried part + k) (written part + j) → Keeps whole None (next x h k) (n + k) (m + j))
      → Keeps whole known (within part room (λ p h k. on (λ x. next x h k) p)) n m
  on_piece by {part = part} {next = next} ready kept =
      reads ready (λ p h k j c. follows (λ q. Claim part q (carried part + k) (written part + j)) (λ move. Keeps whole None move (n + k) (m + j)) (by (λ x. next x h k) p) (λ x d. kept x h k j d) refuses c)

  pub on_pair : {X Y : Type 0} {kind : X × Y → Piece} {on : (X → Y → Move) → Piece → Move} → AsksTwo kind on → {part : Part} {room : ℕ} {next : X → Y → ℕ → ℕ → Move} → IsReady part
      → ((x : X) (y : Y) (h k j : ℕ) → Claim part (kind (x, y)) (carried part + k) (written part + j) → Keeps whole None (next x y h k) (n + k) (m + j))
      → Keeps whole known (within part room (λ p h k. on (λ x y. next x y h k) p)) n m
  on_pair by {part = part} {next = next} ready kept =
      reads ready (λ p h k j c. follows (λ q. Claim part q (carried part + k) (written part + j)) (λ move. Keeps whole None move (n + k) (m + j)) (by (λ x y. next x y h k) p) (λ x d. kept x.0 x.1 h k j d) refuses c)

  pub on_some_items : {part : Part} {room : ℕ} {next : List tree.Stat → Option (List tree.Exp) → ℕ → ℕ → ℕ → Move} → IsReady part
      → ((ss : List tree.Stat) (es : Option (List tree.Exp)) (line : ℕ) (h k j : ℕ) → Claim part (some_items ss es line) (carried part + k) (written part + j) → Keeps whole None (next ss es line h k) (n + k) (m + j))
      → Keeps whole known (within part room (λ p h k. on_items (λ ss es line. next ss es line h k) p)) n m
  on_some_items {part = part} {next = next} ready kept =
      reads ready (λ p h k j c. follows (λ q. Claim part q (carried part + k) (written part + j)) (λ move. Keeps whole None move (n + k) (m + j)) (by_items (λ ss es line. next ss es line h k) p) (λ x d. kept x.0 x.1 x.2 h k j d) refuses c)

  -- a part, and nothing behind it
  pub only_reads : {room : ℕ} (part : Part) → IsReady part
      → ((p : Piece) (k j : ℕ) → Claim part p (carried part + k) (written part + j) → Claim whole p (n + k) (m + j))
      → Keeps whole known (only part room) n m
  only_reads part ready claim = reads ready (λ p h k j c. ends (claim p k j c))

-- a claim holds of more tokens

pub more : (p : Piece) {n m n' m' : ℕ} → n ≤ n' → m ≤ m' → Holds p n m → Holds p n' m'
more (a_line line) a b c = omega (arith, a, c)
more (a_name x) a b c = omega (arith, a, c)
more (some_names xs) a b c = omega (arith, a, c)
more (some_params xs vararg) a b c = tt
more (a_declared d) a b c = omega (arith, a, c)
more (some_declared ds) a b c = omega (arith, a, c)
more (maybe_exp None) a b c = tt
more (maybe_exp (Some e)) a b c = (omega (arith, a, c.0), omega (arith, b, c.1), c.2)
more (some_items ss (Some es) line) a b c = (omega (arith, a, c.0), omega (arith, b, c.1), c.2)
more (maybe_block None) a b c = tt
more (maybe_block (Some block)) a b c = (omega (arith, a, c.0), omega (arith, b, c.1), c.2)
more _ a b c = (omega (arith, a, c.0), omega (arith, b, c.1), c.2)

pub more_arguments : (p : Piece) {n m n' m' : ℕ} → n ≤ n' → m ≤ m' → HoldsAsArguments p n m → HoldsAsArguments p n' m'
more_arguments (some_exps es) a b c = (omega (arith, a, c.0), omega (arith, b, c.1), c.2)
more_arguments _ a b c = absurd c

pub more_fields_hold : (p : Piece) {n m n' m' : ℕ} → n ≤ n' → m ≤ m' → HoldsAsFields p n m → HoldsAsFields p n' m'
more_fields_hold (some_fields fs) a b c = (omega (arith, a, c.0), omega (arith, b, c.1), c.2)
more_fields_hold _ a b c = absurd c

-- A law of whatever is read, from the laws of its parts: what has to be ready before a part, what holds of its piece, and that each move of a
-- production keeps it. A law may rest on what is known of each token.
use Rattle.std.proofs.Common.{◌≡◌, ℕ, ◌-◌, Bool, true, false, List, [], ◌∷◌, length, Option, refl, subst}
use Rattle.std.specs.Prelude.{if◌then◌else◌}
use Rattle.tree_core.specs.Tree as tree
use Rattle.token_cursor.specs.Words.{Lexeme}
use Rattle.lua_parse.specs.Moves.{Piece, some_items, Part, Move, pick, pass, refuse, within, gives}
use Rattle.lua_parse.specs.Grammar.{on_items, only, pass_if, expects}
use Rattle.grammar_laws.proofs.Pieces.{follows, Asks, AsksTwo, by_items}
use Rattle.lua_parse.specs.Reading as reading
use Rattle.lua_parse.specs.Reading.{Outcome, whole, Reads}

abbrev pub AreKnown : (Lexeme → Type 0) → List Lexeme → Type 0
AreKnown Known [] = Unit {0}
AreKnown Known (t ∷ ts) = Known t × AreKnown Known ts

-- where nothing has to be known of a token
abbrev pub AnyToken : Lexeme → Type 0
AnyToken t = Unit {0}

pub any_tokens : (tokens : List Lexeme) → AreKnown AnyToken tokens
any_tokens [] = tt
any_tokens (t ∷ tokens) = (tt, any_tokens tokens)

module _ (Known : Lexeme → Type 0) (Ready : Part → (room : ℕ) → Type 0) (Holds : Part → (room : ℕ) → Piece → Type 0) where
  -- in whatever way it goes on over known tokens, what holds of the part with this room holds of what it gives
  pub data Keeps (part : Part) (room : ℕ) : Move → Type 0 where
    picks : {by : Lexeme → Move} → ((t : Lexeme) → Known t → Keeps part room (by t)) → Keeps part room (pick by)
    passes : {next : Move} → Keeps part room next → Keeps part room (pass next)
    refuses : Keeps part room refuse
    reads : {inner : Part} {own : ℕ} {next : Piece → ℕ → ℕ → Move} → Ready inner own → ((p : Piece) (h k : ℕ) → Holds inner own p → Keeps part room (next p h k)) → Keeps part room (within inner own next)
    ends : {piece : Piece} {height : ℕ} → Holds part room piece → Keeps part room (gives piece height)

  -- what is left of the tokens
  pub record Left (part : Part) (room : ℕ) (piece : Piece) (rest : List Lexeme) : Type 0 where
    pub holds : Holds part room piece
    pub known : AreKnown Known rest

module _ {Known : Lexeme → Type 0} {Ready : Part → ℕ → Type 0} {Holds : Part → ℕ → Piece → Type 0} where
  -- by induction over readings, where each part keeps the law
  pub goes : ((part : Part) (room : ℕ) → Ready part room → Keeps Known Ready Holds part room (expects room part)) → {move : Move} {tokens : List Lexeme} {outcome : Outcome}
      → (piece : Piece) → {goal : Part} {limit : ℕ} → (height : ℕ) (rest : List Lexeme) → Reads move tokens outcome → outcome ≡ whole piece height rest → Keeps Known Ready Holds goal limit move → AreKnown Known tokens
      → Left Known Ready Holds goal limit piece rest
  goes parts piece height rest (reading.picks {token = token} h) e (picks kept) known = goes parts piece height rest h e (kept token known.0) known
  goes parts piece height rest reading.picks_none e kept known = absurd cc
  goes parts piece height rest (reading.passes h) e (passes kept) known = goes parts piece height rest h e kept known.1
  goes parts piece height rest reading.passes_none e kept known = absurd cc
  goes parts piece height rest reading.refuses e kept known = absurd cc
  goes parts piece height rest reading.refuses_none e kept known = absurd cc
  goes parts {tokens = tokens} piece {goal = goal} {limit = limit} height rest (reading.is_whole {piece = own}) e (ends holds) known =
      let same : own ≡ piece = cc in
      let stays : tokens ≡ rest = cc in
      record { holds = subst (Holds goal limit) same holds; known = subst (AreKnown Known) stays known }
  goes parts {tokens = tokens} piece height rest (reading.within_whole {part = part} {room = room} own own_height between h later) e (reads ready kept) known =
      let inner = goes parts own own_height between h refl (parts part room ready) known in
      goes parts piece height rest later e (kept own own_height (length tokens - length between) inner.holds) inner.known
  goes parts piece height rest (reading.within_cut h) e kept known = absurd cc
  goes parts piece height rest (reading.within_stuck h) e kept known = absurd cc

module _ {Known : Lexeme → Type 0} {Ready : Part → ℕ → Type 0} {Holds : Part → ℕ → Piece → Type 0} {goal : Part} {limit : ℕ} where
  pub either : {here other : Move} (b : Bool) → Keeps Known Ready Holds goal limit here → Keeps Known Ready Holds goal limit other → Keeps Known Ready Holds goal limit (if b then here else other)
  either true h o = h
  either false h o = o

  pub either_by : {here other : Move} (b : Bool) → (b ≡ true → Keeps Known Ready Holds goal limit here) → Keeps Known Ready Holds goal limit other
      → Keeps Known Ready Holds goal limit (if b then here else other)
  either_by true h o = h refl
  either_by false h o = o

  pub passes_if : {next : Move} (b : Bool) → Keeps Known Ready Holds goal limit next → Keeps Known Ready Holds goal limit (pass_if b next)
  passes_if true h = passes h
  passes_if false h = refuses

  pub only_reads : {room : ℕ} (part : Part) → Ready part room → ((p : Piece) → Holds part room p → Holds goal limit p) → Keeps Known Ready Holds goal limit (only part room)
  only_reads part ready same = reads ready (λ p h k c. ends (same p c))

  -- a part, by the kind of its piece

  pub on_piece : {X : Type 0} {kind : X → Piece} {on : (X → Move) → Piece → Move} → Asks kind on → {part : Part} {room : ℕ} {next : X → ℕ → ℕ → Move} → Ready part room
      → ((x : X) (h k : ℕ) → Holds part room (kind x) → Keeps Known Ready Holds goal limit (next x h k))
      → Keeps Known Ready Holds goal limit (within part room (λ p h k. on (λ x. next x h k) p))
  on_piece by {part = part} {room = room} {next = next} ready kept =
      reads ready (λ p h k c. follows (Holds part room) (Keeps Known Ready Holds goal limit) (by (λ x. next x h k) p) (λ x d. kept x h k d) refuses c)

  pub on_pair : {X Y : Type 0} {kind : X × Y → Piece} {on : (X → Y → Move) → Piece → Move} → AsksTwo kind on → {part : Part} {room : ℕ} {next : X → Y → ℕ → ℕ → Move} → Ready part room
      → ((x : X) (y : Y) (h k : ℕ) → Holds part room (kind (x, y)) → Keeps Known Ready Holds goal limit (next x y h k))
      → Keeps Known Ready Holds goal limit (within part room (λ p h k. on (λ x y. next x y h k) p))
  on_pair by {part = part} {room = room} {next = next} ready kept =
      reads ready (λ p h k c. follows (Holds part room) (Keeps Known Ready Holds goal limit) (by (λ x y. next x y h k) p) (λ x d. kept x.0 x.1 h k d) refuses c)

  pub on_some_items : {part : Part} {room : ℕ} {next : List tree.Stat → Option (List tree.Exp) → ℕ → ℕ → ℕ → Move} → Ready part room
      → ((ss : List tree.Stat) (es : Option (List tree.Exp)) (line : ℕ) (h k : ℕ) → Holds part room (some_items ss es line) → Keeps Known Ready Holds goal limit (next ss es line h k))
      → Keeps Known Ready Holds goal limit (within part room (λ p h k. on_items (λ ss es line. next ss es line h k) p))
  on_some_items {part = part} {room = room} {next = next} ready kept =
      reads ready (λ p h k c. follows (Holds part room) (Keeps Known Ready Holds goal limit) (by_items (λ ss es line. next ss es line h k) p) (λ x d. kept x.0 x.1 x.2 h k d) refuses c)

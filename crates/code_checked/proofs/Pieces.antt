-- Code is put together of pieces. Between two pieces is a seam, which says what may stand in front of it and behind it: nothing of note, a list that was
-- opened from a register, or a return.
use Rattle.std.proofs.Common.{◌≡◌, ℕ, suc, ◌+◌, ℤ, pos, negsuc, true, false, not, ◌&&◌, ◌||◌, ◌==◌, List, [], ◌∷◌, ◌++◌, length, Option, Some, None, slice_get, refl, sym, subst, arith, length-append}
use Rattle.std.specs.Prelude.{nat_lt}
use Rattle.std.specs.List.{list_all}
use Rattle.code_core.specs.declared.opcode.Opcode.{Opcode}
use Rattle.code_core.specs.declared.opcode.Opcode.TheVariants.{Jmp, Return}
use Rattle.code_core.specs.declared.instruction.Instruction.{Instruction}
use Rattle.code_core.specs.Instruction.{opcode_of}
use Rattle.code_core.specs.Fields.{is_whole, constants, upvalues, target, second_half, stands_second, takes_list}
use Rattle.code_core.specs.Prototype.{Prototype}
use Rattle.code_core.specs.Writable.{word_fits}
use Rattle.code_core.specs.Check.{at, in_front, there, fixed, open_from, leaves, mark, is_fixed, begins_with, goes_on, extra_at, constant_is, function_there, is_landing, lands_fixed, takes_from, is_taken, varargs_fit}
use Rattle.code_of.specs.Coded.{Coded}

pub data Seam : Type 0 where
  closed : Seam
  listed : ℕ → Seam
  returned : Seam

-- an instruction that can be landed on, if what stands in front of it is closed
pub record IsHead (w : Instruction) : Type 0 where
  pub opcode : Opcode
  pub is : opcode_of w ≡ Some opcode
  pub alone : stands_second opcode ≡ false

-- an instruction in front of a seam
abbrev pub Leaves : Seam → Instruction → Type 0
Leaves closed w = (leaves w ≡ fixed) × (begins_with Jmp w ≡ false)
Leaves (listed r) w = leaves w ≡ open_from r
Leaves returned w = (leaves w ≡ fixed) × (begins_with Jmp w ≡ false) × (opcode_of w ≡ Some Return)

abbrev pub Front : Seam → Option Instruction → Type 0
Front closed None = Unit {0}
Front (listed r) None = ⊥
Front returned None = ⊥
Front m (Some w) = Leaves m w

abbrev pub Starts : Seam → List Coded → Type 0
Starts closed [] = Unit {0}
Starts closed (x ∷ xs) = IsHead x.0
Starts (listed r) [] = ⊥
Starts (listed r) (x ∷ xs) = takes_from r x.0 ≡ true
Starts returned xs = ⊥

abbrev pub Ends : (front back : Seam) → List Coded → Type 0
Ends f m [] = f ≡ m
Ends f m (x ∷ []) = Leaves m x.0
Ends f m (x ∷ y ∷ xs) = Ends f m (y ∷ xs)

module _ (p : Prototype) where
  pub record There (q : ℕ) : Type 0 where
    pub word : Instruction
    pub here : at p q ≡ Some word
    pub head : IsHead word

  pub record Taken (r q : ℕ) : Type 0 where
    pub word : Instruction
    pub here : at p q ≡ Some word
    pub takes : takes_from r word ≡ true

  -- what stands behind a seam
  abbrev pub Behind : Seam → ℕ → Type 0
  Behind closed q = There q
  Behind (listed r) q = Taken r q
  Behind returned q = Unit {0}

  -- a place to which a jump may lead
  pub record Land (q : ℕ) : Type 0 where
    pub there : There q
    pub front : Front closed (in_front p q)

  abbrev pub Lands : Option ℤ → Type 0
  Lands None = Unit {0}
  Lands (Some (pos q)) = Land q
  Lands (Some (negsuc n)) = ⊥

  -- code at its place, which is not the place of VARARGPREP
  abbrev pub Has : ℕ → List Coded → Type 0
  Has pc [] = Unit {0}
  Has pc (x ∷ xs) = (at p pc ≡ Some x.0) × (not (pc == 0 && p.own.vararg) ≡ true) × (Has (suc pc) xs)

  -- the rules on an instruction, but for those on registers and on the end of the code, which hold of all code of its form
  pub record Kept (pc : ℕ) (w : Instruction) : Type 0 where
    pub opcode : Opcode
    pub is : opcode_of w ≡ Some opcode
    pub whole : is_whole opcode ≡ true
    pub fits : word_fits w ≡ true
    pub constant : list_all (λ used. there (constant_is used.0) (slice_get p.own.constants used.1)) (constants opcode w (extra_at p pc)) ≡ true
    pub upvalue : list_all (λ u. nat_lt u (length p.own.upvalues)) (upvalues opcode w) ≡ true
    pub inner : function_there p opcode w ≡ true
    pub lands : is_landing p (target pc opcode w) ≡ true
    pub begins : goes_on p pc w (second_half opcode w) ≡ true
    pub second : (not (stands_second opcode) || there (begins_with opcode) (in_front p pc)) ≡ true
    pub taken : is_taken p pc (leaves w) ≡ true
    pub takes : (not (takes_list opcode w) || not (is_fixed (mark p pc))) ≡ true
    pub fixed : lands_fixed p (target pc opcode w) ≡ true
    pub varargs : varargs_fit p pc opcode ≡ true

  abbrev pub AllKept : ℕ → List Coded → Type 0
  AllKept pc [] = Unit {0}
  AllKept pc (x ∷ xs) = Kept pc x.0 × AllKept (suc pc) xs

  -- code whose instructions keep the rules where it stands, given what stands around it and what its jumps suppose
  pub record Piece (H : Type 0) (f m : Seam) (pc : ℕ) (code : List Coded) : Type 0 where
    pub starts : Starts f code
    pub ends : Ends f m code
    pub kept : H → Has pc code → Front f (in_front p pc) → Behind m (pc + length code) → AllKept pc code

  -- code in two parts

  pub has_left : (pc : ℕ) (xs ys : List Coded) → Has pc (xs ++ ys) → Has pc xs
  has_left pc [] ys h = tt
  has_left pc (x ∷ xs) ys h = (h.0, h.1, has_left (suc pc) xs ys h.2)

  pub has_right : (pc : ℕ) (xs ys : List Coded) → Has pc (xs ++ ys) → Has (pc + length xs) ys
  has_right pc [] ys h = let e : pc ≡ pc + 0 = omega arith in subst (λ q. Has q ys) e h
  has_right pc (x ∷ xs) ys h =
      let e : suc pc + length xs ≡ pc + length (x ∷ xs) = omega arith in
      subst (λ q. Has q ys) e (has_right (suc pc) xs ys h.2)

  pub kept_both : (pc : ℕ) (xs ys : List Coded) → AllKept pc xs → AllKept (pc + length xs) ys → AllKept pc (xs ++ ys)
  kept_both pc [] ys h k = let e : pc + 0 ≡ pc = omega arith in subst (λ q. AllKept q ys) e k
  kept_both pc (x ∷ xs) ys h k =
      let e : pc + length (x ∷ xs) ≡ suc pc + length xs = omega arith in
      (h.0, kept_both (suc pc) xs ys h.1 (subst (λ q. AllKept q ys) e k))

  last_front : (m f : Seam) (pc : ℕ) (x : Coded) (xs : List Coded) → Ends f m (x ∷ xs) → Has pc (x ∷ xs) → Front m (in_front p (pc + length (x ∷ xs)))
  last_front m f pc x [] ends has =
      let e : suc pc ≡ pc + length (x ∷ []) = omega arith in
      subst (λ q. Front m (in_front p q)) e (subst (Front m) (sym has.0) (some_front m x.0 ends))
    where
      some_front : (m : Seam) (w : Instruction) → Leaves m w → Front m (Some w)
      some_front closed w h = h
      some_front (listed r) w h = h
      some_front returned w h = h
  last_front m f pc x (y ∷ xs) ends has =
      let e : suc pc + length (y ∷ xs) ≡ pc + length (x ∷ y ∷ xs) = omega arith in
      subst (λ q. Front m (in_front p q)) e (last_front m f (suc pc) y xs ends has.2)

  -- what stands in front of a place behind a piece
  pub front_behind : (f m : Seam) (pc : ℕ) (xs : List Coded) → Ends f m xs → Has pc xs → Front f (in_front p pc) → Front m (in_front p (pc + length xs))
  front_behind f m pc [] ends has front =
      let e : pc ≡ pc + 0 = omega arith in
      subst (λ q. Front m (in_front p q)) e (subst (λ s. Front s (in_front p pc)) ends front)
  front_behind f m pc (x ∷ xs) ends has front = last_front m f pc x xs ends has

  -- what stands behind a place in front of a piece
  pub behind_front : (f m : Seam) (pc : ℕ) (xs : List Coded) → Starts f xs → Ends f m xs → Has pc xs → Behind m (pc + length xs) → Behind f pc
  behind_front closed m pc [] starts ends has behind =
      let e : pc + 0 ≡ pc = omega arith in
      subst (λ q. Behind closed q) e (subst (λ s. Behind s (pc + 0)) (sym ends) behind)
  behind_front (listed r) m pc [] starts ends has behind = absurd starts
  behind_front closed m pc (x ∷ xs) starts ends has behind = record { word = x.0; here = has.0; head = starts }
  behind_front (listed r) m pc (x ∷ xs) starts ends has behind = record { word = x.0; here = has.0; takes = starts }
  behind_front returned m pc xs starts ends has behind = absurd starts

  ends_any : (f g m : Seam) (x : Coded) (xs : List Coded) → Ends f m (x ∷ xs) → Ends g m (x ∷ xs)
  ends_any f g m x [] h = h
  ends_any f g m x (y ∷ xs) h = ends_any f g m y xs h

  ends_both : (f m n : Seam) (xs ys : List Coded) → Ends f m xs → Ends m n ys → Ends f n (xs ++ ys)
  ends_both f m n [] ys h k = subst (λ s. Ends s n ys) (sym h) k
  ends_both f m n (x ∷ []) [] h k = subst (λ s. Leaves s x.0) k h
  ends_both f m n (x ∷ []) (y ∷ ys) h k = ends_any m f n y ys k
  ends_both f m n (x ∷ z ∷ xs) ys h k = ends_both f m n (z ∷ xs) ys h k

  starts_both : (f m : Seam) (xs ys : List Coded) → Starts f xs → Ends f m xs → Starts m ys → Starts f (xs ++ ys)
  starts_both f m [] ys h e k = subst (λ s. Starts s ys) (sym e) k
  starts_both closed m (x ∷ xs) ys h e k = h
  starts_both (listed r) m (x ∷ xs) ys h e k = h
  starts_both returned m (x ∷ xs) ys h e k = absurd h

  -- two pieces one after another
  pub both : {H : Type 0} {f m n : Seam} {pc : ℕ} {xs ys : List Coded} → Piece H f m pc xs → Piece H m n (pc + length xs) ys → Piece H f n pc (xs ++ ys)
  both {H} {f} {m} {n} {pc} {xs} {ys} a b = record {
    starts = starts_both f m xs ys a.starts a.ends b.starts;
    ends = ends_both f m n xs ys a.ends b.ends;
    kept = λ h has front behind.
        let left = has_left pc xs ys has in
        let right = has_right pc xs ys has in
        let e : pc + length (xs ++ ys) ≡ pc + length xs + length ys = (let l = length-append xs ys in omega (arith, l)) in
        let end = subst (λ q. Behind n q) e behind in
        kept_both pc xs ys
        (a.kept h left front (behind_front m n (pc + length xs) ys b.starts b.ends right end))
        (b.kept h right (front_behind f m pc xs a.ends left front) end);
  }

  pub nothing : {H : Type 0} {pc : ℕ} → Piece H closed closed pc []
  nothing = record { starts = tt; ends = refl; kept = λ h has front behind. tt }

  pub supposing : {G H : Type 0} {f m : Seam} {pc : ℕ} {xs : List Coded} → (G → H) → Piece H f m pc xs → Piece G f m pc xs
  supposing {G = G} {H = H} {f} {m} {pc} {xs} to a = record { starts = a.starts; ends = a.ends; kept = λ g. a.kept (to g) }

  pub placed_at : {H : Type 0} {f m : Seam} {pc q : ℕ} {xs : List Coded} → pc ≡ q → Piece H f m pc xs → Piece H f m q xs
  placed_at {H} {f} {m} {pc} {q} {xs} e a = subst (λ q. Piece H f m q xs) e a

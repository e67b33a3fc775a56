-- The place of an error by what is kept is that of the world that it stands for.
use Rattle.std.proofs.Common.{◌≡◌, ℕ, suc, ◌+◌, ◌<◌, ◌≤◌, List, [], ◌∷◌, ◌++◌, map, length, take, drop, Option, Some, None, true, refl, ap, sym, ◌∙◌, arith}
use Rattle.std.specs.Prelude.{◌≢◌, ◌-◌, ◌^◌, get_or, nat_abs, ℤ, pos, negsuc, ◌≤ℤ◌, slice_get, reverse, filter_map}
use Rattle.std.specs.List.{cons_option, list_all}
use Rattle.std.specs.Option.{option_map}
use Rattle.std.proofs.Math.Seq.{take-suc}
use Rattle.std.proofs.lemmas.Int.{ints}
use Rattle.std.proofs.lemmas.Option.{slice_get-map, slice_get-get_or, slice_get_within}
use Rattle.std.proofs.lemmas.List.{reverse-append, map_push}
use Rattle.int_core.specs.Value.{bind, known, last, string}
use Rattle.int_core.specs.Limits.{position}
use Rattle.code_core.specs.Prototype.{Prototype}
use Rattle.code_core.specs.Check.{IsChecked, is_line, line_at, lines_from, none_or_one_per}
use Rattle.code_core.specs.declared.proto.AbsLine.{AbsLine}
use Rattle.code_core.proofs.CheckedLemmas.{first_of_two, rest_of}
use Rattle.list_laws.proofs.Items.{some_same}
use Rattle.list_laws.proofs.Tests.{lt_is}
use Rattle.machine_core.specs.World.{Function, Frame, Coroutine, Stack, running_frames}
use Rattle.machine_core.specs.Moves.{line_of, frame_place, where_text}
use Rattle.machine_sound.proofs.Lists.{get_there}
use Rattle.lua_stack.specs.Frames.{KeptFrame, kept_lua, KeptStack, frame_of, kept_place}
use Rattle.table_core.specs.declared.value.CoroId.{CoroId}
use Rattle.table_core.specs.declared.value.FuncId.{FuncId}
use Rattle.table_core.specs.declared.value.StrId.{StrId}
use Rattle.table_core.specs.declared.value.Value.TheVariants.{Str}
use Rattle.lua_heap.specs.declared.codes.Codes.{Codes}
use Rattle.lua_heap.specs.declared.world.Coro.{Coro}
use Rattle.lua_heap.specs.declared.world.Coro.TheVariants.{Running}
use Rattle.lua_heap.specs.declared.world.Func.{Func}
use Rattle.lua_heap.specs.declared.world.World.{World as Memory}
use Rattle.lua_heap.specs.Reading.{text_or, value}
use Rattle.lua_heap.specs.Codes.{functions, AreCodes, code_or_none, no_code, prototype_at}
use Rattle.lua_heap.specs.Plain.{function, coroutine, plain}
use Rattle.lua_heap.specs.Places.{line_in, place_in, nth_place, stack_if_runs, running_stack}
use Rattle.lua_stack.proofs.Told.{last_map}
use Rattle.lua_stack.proofs.Pushed.{get_past}

abbrev Line : Type 0
Line = List ℕ × ℕ

abbrev text_of_line : Line → List ℕ
text_of_line l = position l.0 l.1

abbrev pub text_or_nothing : Option Line → List ℕ
text_or_nothing None = []
text_or_nothing (Some l) = position l.0 l.1

abbrev stack_at : ℕ → List Frame → Stack
stack_at co frames = record { coroutine = co; frames = frames }

abbrev frame_line : Memory → KeptFrame → Option Line
frame_line W f = bind (kept_place (Some f)) (place_in W)

-- one frame

place_read : (W : Memory) (frames : List KeptFrame) (n : ℕ) (f : KeptFrame) (o : Option (FuncId × ℕ)) → slice_get frames n ≡ Some f → o ≡ kept_place (slice_get frames n) → bind (kept_place (Some f)) (place_in W) ≡ bind o (place_in W)
place_read W frames n f o there is = ap (λ (o : Option KeptFrame). bind (kept_place o) (place_in W)) (sym there) ∙ ap (λ (o : Option (FuncId × ℕ)). bind o (place_in W)) (sym is)

line_case : (name : List ℕ) (o : Option ℕ) → bind o (λ line. Some (position name line)) ≡ option_map text_of_line (bind o (λ line. Some (name, line)))
line_case name None = refl
line_case name (Some line) = refl

source_case : (source : Option (List ℕ)) (line : Option ℕ)
    → bind source (λ name. bind line (λ n. Some (position name n))) ≡ option_map text_of_line (bind source (λ name. bind line (λ n. Some (name, n))))
source_case None line = refl
source_case (Some name) line = line_case name line

module _ (W : Memory) (fuel : ℕ) where
  function_case : (pc : ℕ) (o : Option Func)
      → bind (option_map (function (functions W.codes)) o) (λ g. bind g.code.own.source (λ name. bind (line_of g.code pc) (λ line. Some (position name line))))
      ≡ option_map text_of_line (bind o (λ f. line_in (function (functions W.codes) f).code pc))
  function_case pc None = refl
  function_case pc (Some f) = let g : Function = function (functions W.codes) f in source_case g.code.own.source (line_of g.code pc)

  place_is : (f : KeptFrame) → frame_place (plain W fuel) (frame_of (value W.strings) f) ≡ option_map text_of_line (frame_line W f)
  place_is (kept_lua t) =
      ap (λ o. bind o (λ g. bind g.code.own.source (λ name. bind (line_of g.code t.pc) (λ line. Some (position name line)))))
      (slice_get-map (function (functions W.codes)) W.funcs.objects t.function.0)
      ∙ function_case t.pc (slice_get W.funcs.objects t.function.0)
  place_is _ = refl

  -- all of them

  cons_case : (o : Option Line) (ls : List Line) → cons_option (option_map text_of_line o) (map text_of_line ls) ≡ map text_of_line (cons_option o ls)
  cons_case None ls = refl
  cons_case (Some l) ls = refl

  places_are : (fs : List KeptFrame) → filter_map (frame_place (plain W fuel)) (map (frame_of (value W.strings)) fs) ≡ map text_of_line (filter_map (frame_line W) fs)
  places_are [] = refl
  places_are (f ∷ fs) =
      ap (λ o. cons_option o (filter_map (frame_place (plain W fuel)) (map (frame_of (value W.strings)) fs))) (place_is f)
      ∙ ap (cons_option (option_map text_of_line (frame_line W f))) (places_are fs)
      ∙ cons_case (frame_line W f) (filter_map (frame_line W) fs)

  reverse_map : {A B : Type 0} (g : A → B) (xs : List A) → reverse (map g xs) ≡ map g (reverse xs)
  reverse_map g [] = refl
  reverse_map g (x ∷ xs) =
      reverse-append (g x ∷ []) (map g xs) ∙ ap (λ ys. ys ++ g x ∷ []) (reverse_map g xs) ∙ sym (map_push g (reverse xs) x) ∙ ap (map g) (sym (reverse-append (x ∷ []) xs))

  level_case : (o : Option Line) → elim (option_map text_of_line o) [ None ↦ [] | Some text ↦ text ] ≡ text_or_nothing o
  level_case None = refl
  level_case (Some l) = refl

  in_stack : (s : KeptStack) (level : ℕ)
      → slice_get (filter_map (frame_place (plain W fuel)) (reverse (map (frame_of (value W.strings)) s.frames))) level ≡ option_map text_of_line (nth_place W s.frames level)
  in_stack s level =
      ap (λ fs. slice_get (filter_map (frame_place (plain W fuel)) fs) level) (reverse_map (frame_of (value W.strings)) s.frames)
      ∙ ap (λ ts. slice_get ts level) (places_are (reverse s.frames))
      ∙ slice_get-map text_of_line (filter_map (frame_line W) (reverse s.frames)) level

  -- in the coroutine that runs

  abbrev text_in : ℕ → Option (List Frame) → List ℕ
  text_in level fs = elim (bind fs (λ frames. slice_get (filter_map (frame_place (plain W fuel)) (reverse frames)) level)) [ None ↦ [] | Some text ↦ text ]

  in_coroutine : (level : ℕ) (o : Option Coro)
      → text_in level (bind (option_map (coroutine W.strings) o) running_frames) ≡ text_or_nothing (bind (bind o stack_if_runs) (λ s. nth_place W s.frames level))
  in_coroutine level (Some (Running s)) =
      ap (λ (o : Option (List ℕ)). elim o [ None ↦ [] | Some text ↦ text ]) (in_stack s level) ∙ level_case (nth_place W s.frames level)
  in_coroutine level _ = refl

  abbrev frames_at : ℕ → Option (List Frame)
  frames_at co = bind (slice_get (map (coroutine W.strings) W.coros.objects) co) running_frames

  with_number : (level co : ℕ) (o : Option (List Frame))
      → elim (bind (bind o (λ frames. Some (stack_at co frames))) (λ s. slice_get (filter_map (frame_place (plain W fuel)) (reverse s.frames)) level)) [ None ↦ [] | Some text ↦ text ]
      ≡ text_in level o
  with_number level co None = refl
  with_number level co (Some fs) = refl

  in_chain : (level : ℕ) (o : Option CoroId)
      → elim (bind (bind (option_map (λ (co : CoroId). co.0) o) (λ co. bind (frames_at co) (λ frames. Some (stack_at co frames)))) (λ s. slice_get (filter_map (frame_place (plain W fuel)) (reverse s.frames)) level)) [ None ↦ [] | Some text ↦ text ]
      ≡ text_or_nothing (bind (bind o (λ co. bind (slice_get W.coros.objects co.0) stack_if_runs)) (λ s. nth_place W s.frames level))
  in_chain level None = refl
  in_chain level (Some co) =
      with_number level co.0 (frames_at co.0)
      ∙ ap (λ (o : Option Coroutine). text_in level (bind o running_frames)) (slice_get-map (coroutine W.strings) W.coros.objects co.0)
      ∙ in_coroutine level (slice_get W.coros.objects co.0)

  pub where_is : (level : ℕ) → where_text (plain W fuel) level ≡ text_or_nothing (bind (running_stack W) (λ s. nth_place W s.frames level))
  where_is level =
      ap (λ (o : Option ℕ). elim (bind (bind o (λ co. bind (frames_at co) (λ frames. Some (stack_at co frames)))) (λ s. slice_get (filter_map (frame_place (plain W fuel)) (reverse s.frames)) level)) [ None ↦ [] | Some text ↦ text ])
      (last_map (λ (co : CoroId). co.0) W.chain.items)
      ∙ in_chain level (last W.chain.items)

-- checked code

pub proto_checked : (texts : List (List ℕ)) (codes : Codes) (n : ℕ) (p : Prototype) → AreCodes texts codes → slice_get (functions codes) n ≡ Some p → n < length codes.list.items → IsChecked p
proto_checked texts codes n p h e l = let c = get_there codes.list.items n l in (h.each n p c.0 e c.1).checked

-- lines

pub line_bounds : (z : ℤ) → is_line (Some z) ≡ true → (pos 0 ≤ℤ z) × (z ≤ℤ pos (2 ^ 32))
line_bounds (pos n) h = let l : n < 2 ^ 31 = lt_is n (2 ^ 31) h in (omega (arith, ints), omega (arith, ints, l))
line_bounds (negsuc n) h = absurd (cc)

pub line_below : (z : ℤ) → is_line (Some z) ≡ true → nat_abs z < 2 ^ 31
line_below (pos n) h = lt_is n (2 ^ 31) h
line_below (negsuc n) h = absurd (cc)

pub as_natural : (z : ℤ) → is_line (Some z) ≡ true → z ≡ pos (nat_abs z)
as_natural (pos n) h = refl
as_natural (negsuc n) h = absurd (cc)

pub lines_good : (p : Prototype) → IsChecked p → list_all is_line (lines_from p.own.abs_lines 0 (Some (pos p.own.line_defined)) p.own.line_info) ≡ true
lines_good p h = first_of_two _ _ (rest_of (none_or_one_per (length p.own.line_info) (length p.own.code)) h.code.described)

module _ (lines : List AbsLine) (info : List ℤ) (at : ℕ) (line change : ℤ) (here : drop at info ≡ change ∷ drop (at + 1) info) where
  abbrev next_there : Option ℤ
  next_there = line_at lines at (Some line) change

  -- the lines from a place on, and those behind it
  lines_split : lines_from lines at (Some line) (drop at info) ≡ next_there ∷ lines_from lines (at + 1) next_there (drop (at + 1) info)
  lines_split = ap (lines_from lines at (Some line)) here

  pub next_good : list_all is_line (lines_from lines at (Some line) (drop at info)) ≡ true → is_line next_there ≡ true
  next_good h = first_of_two (is_line next_there) _ (ap (list_all is_line) (sym lines_split) ∙ h)

  module _ (next : ℤ) (is : next_there ≡ Some next) where
    lines_on : lines_from lines at (Some line) (drop at info) ≡ Some next ∷ lines_from lines (at + 1) (Some next) (drop (at + 1) info)
    lines_on = lines_split ∙ ap (λ (o : Option ℤ). o ∷ lines_from lines (at + 1) o (drop (at + 1) info)) is

    pub rest_good : list_all is_line (lines_from lines at (Some line) (drop at info)) ≡ true → list_all is_line (lines_from lines (at + 1) (Some next) (drop (at + 1) info)) ≡ true
    rest_good h = rest_of (is_line (Some next)) (ap (list_all is_line) (sym lines_on) ∙ h)

    pub line_here : (pc : ℕ) → at ≡ pc → slice_get (lines_from lines at (Some line) (drop at info)) (pc - at) ≡ Some (Some next)
    line_here pc e =
        let none : pc - at ≡ 0 = omega (arith, e) in
        ap (λ ls. slice_get ls (pc - at)) lines_on ∙ ap (slice_get (Some next ∷ lines_from lines (at + 1) (Some next) (drop (at + 1) info))) none

    pub line_behind : (pc : ℕ) → at ≤ pc → at ≢ pc
        → slice_get (lines_from lines (at + 1) (Some next) (drop (at + 1) info)) (pc - (at + 1)) ≡ slice_get (lines_from lines at (Some line) (drop at info)) (pc - at)
    line_behind pc l n =
        let more : suc (pc - (at + 1)) ≡ pc - at = omega (arith, l, n) in
        ap (slice_get (Some next ∷ lines_from lines (at + 1) (Some next) (drop (at + 1) info))) more ∙ ap (λ ls. slice_get ls (pc - at)) (sym lines_on)

-- the line that was found, as that of the definitions
pub line_is : (p : Prototype) (pc : ℕ) (line : ℤ) (n : ℕ) → slice_get (lines_from p.own.abs_lines 0 (Some (pos p.own.line_defined)) p.own.line_info) pc ≡ Some (Some line) → line ≡ pos n → Some n ≡ line_of p pc
line_is p pc line n e f =
    let o : slice_get (lines_from p.own.abs_lines 0 (Some (pos p.own.line_defined)) p.own.line_info) pc ≡ Some (Some (pos n)) = e ∙ ap (λ (z : ℤ). Some (Some z)) f in
    sym (ap (λ (o : Option (Option ℤ)). bind (bind o (λ line. line)) (λ line. elim line [ pos n ↦ Some n | negsuc _ ↦ None ])) o)

pub line_is_not : (p : Prototype) (pc : ℕ) → slice_get (lines_from p.own.abs_lines 0 (Some (pos p.own.line_defined)) p.own.line_info) pc ≡ None → None ≡ line_of p pc
line_is_not p pc e = sym (ap (λ (o : Option (Option ℤ)). bind (bind o (λ line. line)) (λ line. elim line [ pos n ↦ Some n | negsuc _ ↦ None ])) e)

-- places in a stack, from the top down, one frame less

top_first : {A : Type 0} (n : ℕ) (xs : List A) (x : A) → slice_get xs n ≡ Some x → reverse (take (n + 1) xs) ≡ x ∷ reverse (take n xs)
top_first n xs x e =
    let on : n + 1 ≡ suc n = omega arith in
    let l = slice_get_within xs n x e in
    let item : get_or xs n x ≡ x = some_same _ _ (sym (slice_get-get_or xs n x l) ∙ e) in
    ap (λ k. reverse (take k xs)) on ∙ ap reverse (take-suc xs n x l ∙ ap (λ y. take n xs ++ y ∷ []) item) ∙ reverse-append (take n xs) (x ∷ [])

module _ (W : Memory) (frames : List KeptFrame) where
  -- the lines of the first frames
  abbrev lines_in : ℕ → List Line
  lines_in count = filter_map (frame_line W) (reverse (take count frames))

  module _ (count left : ℕ) (nth : Option Line) (o : Option (FuncId × ℕ)) (some : 0 < count) (within : count ≤ length frames) (place : o ≡ kept_place (slice_get frames (count - 1)))
      (same : slice_get (lines_in count) left ≡ nth) where
    from_top : lines_in count ≡ cons_option (bind o (place_in W)) (lines_in (count - 1))
    from_top =
        let n : ℕ = count - 1 in
        let f = get_there frames n (omega (arith, some, within)) in
        let all : count ≡ n + 1 = omega (arith, some) in
        ap lines_in all ∙ ap (filter_map (frame_line W)) (top_first n frames f.0 f.1) ∙ ap (λ (l : Option Line). cons_option l (lines_in n)) (place_read W frames n f.0 o f.1 place)

    one_less : (l : Option Line) → l ≡ bind o (place_in W) → slice_get (cons_option l (lines_in (count - 1))) left ≡ nth
    one_less l is = ap (λ (k : Option Line). slice_get (cons_option k (lines_in (count - 1))) left) is ∙ ap (λ ls. slice_get ls left) (sym from_top) ∙ same

    pub found_line : (l : Line) → Some l ≡ bind o (place_in W) → left ≡ 0 → Some l ≡ nth
    found_line l is none = ap (slice_get (l ∷ lines_in (count - 1))) (sym none) ∙ one_less (Some l) is

    pub later_line : (l : Line) → Some l ≡ bind o (place_in W) → left ≢ 0 → slice_get (lines_in (count - 1)) (left - 1) ≡ nth
    later_line l is more = let on : suc (left - 1) ≡ left = omega (arith, more) in ap (slice_get (l ∷ lines_in (count - 1))) on ∙ one_less (Some l) is

    pub other_line : None ≡ bind o (place_in W) → slice_get (lines_in (count - 1)) left ≡ nth
    other_line is = one_less None is

-- a function without code that is there has no line

pub no_place : (W : Memory) (function : FuncId) (pc : ℕ) (g : Func) → AreCodes W.strings W.codes → slice_get W.funcs.objects function.0 ≡ Some g → length W.codes.list.items ≤ g.code.0
    → None ≡ place_in W (function, pc)
unfolding no_code
no_place W function pc g h e l =
    let c = h.count in
    let none : slice_get (functions W.codes) g.code.0 ≡ None = get_past (functions W.codes) g.code.0 (omega (arith, l, c)) in
    sym (ap (λ (o : Option Func). bind o (λ g. line_in (prototype_at (functions W.codes) g.code.0) pc)) e ∙ ap (λ (o : Option Prototype). line_in (code_or_none o) pc) none)

-- a string's text
pub text_is : (texts : List (List ℕ)) (id : StrId) (text : List ℕ) → slice_get texts id.0 ≡ Some text → value texts (Str id) ≡ known (string text)
text_is texts id text e = ap (λ (o : Option (List ℕ)). known (string (text_or id.0 o))) e

-- Reading a function follows the grammar, and counts the functions that are read.
use Rattle.std.proofs.Common.{◌≡◌, ℕ, zero, suc, ◌+◌, List, [], ◌∷◌, ◌++◌, Option, refl, sym, ap, ◌∙◌, append_assoc, append-nil, arith}
use Rattle.code_core.specs.Prototype.{Parts, Prototype, prototypes, count, function_count}
use Rattle.chunk_format.specs.Reading.{Got, read, Lists, Details, read_source, read_head, read_number, read_lists, read_details, read_functions, read_body, read_function, parts_of, or_parents}
use Rattle.chunk_format.specs.Grammar.{NumberOf, SourceOf, HeadOf, ListsOf, DetailsOf, TimesOf, BodyOf, FunctionOf}
use Rattle.chunk_format.proofs.Exact.{Spelled, Exact, halves, at_front, exact_then, exact_gives}
use Rattle.chunk_format.proofs.Bases.{exact_byte, exact_flag, exact_number}
use Rattle.chunk_format.proofs.Formats.{exact_name, exact_instruction, exact_upvalue, exact_change, exact_abs_line, exact_local, exact_list}
use Rattle.chunk_format.proofs.Constants.{exact_constant, same_rest}
use Rattle.chunk_format.proofs.Spelled.{then_rest}

exact_source : (parent : Option (List ℕ)) → Exact (SourceOf parent) (read_source parent)
exact_source parent = exact_then exact_name (λ name. exact_gives (or_parents parent name))

exact_head : (parent : Option (List ℕ)) → Exact (HeadOf parent) (read_head parent)
exact_head parent =
    exact_then (exact_source parent) (λ source. exact_then exact_number (λ line_defined. exact_then exact_number (λ last_line.
    exact_then exact_byte (λ params. exact_then exact_flag (λ vararg. exact_then exact_byte (λ stack. exact_gives _))))))

exact_lists : Exact ListsOf read_lists
exact_lists =
    exact_then (exact_list exact_instruction) (λ code. exact_then (exact_list exact_constant) (λ constants. exact_then (exact_list exact_upvalue) (λ upvalues. exact_gives _)))

exact_details : Exact DetailsOf read_details
exact_details =
    exact_then (exact_list exact_change) (λ line_info. exact_then (exact_list exact_abs_line) (λ abs_lines. exact_then (exact_list exact_local) (λ locals.
    exact_then (exact_list exact_name) (λ up_names. exact_gives _))))

read_value : {A : Type 0} {x y : A} {bytes rest : List ℕ} → read x bytes ≡ read y rest → x ≡ y
read_value e = cc

-- functions, and how many of them

pub record SpelledWithin (Rule : Prototype → List ℕ → Type 0) (p : Prototype) (left after : ℕ) (bytes rest : List ℕ) : Type 0 where
  pub front : List ℕ
  pub whole : bytes ≡ front ++ rest
  pub spells : Rule p front
  pub counted : left ≡ after + function_count p

pub record ExactWithin (Rule : Prototype → List ℕ → Type 0) (get : ℕ → List ℕ → Got (Prototype × ℕ)) : Type 0 where
  pub sound : (left after : ℕ) (bytes rest : List ℕ) (p : Prototype) → get left bytes ≡ read (p, after) rest → SpelledWithin Rule p left after bytes rest
  pub complete : (left after : ℕ) (p : Prototype) (front rest : List ℕ) → Rule p front → left ≡ after + function_count p → get left (front ++ rest) ≡ read (p, after) rest

record AllWithin (Rule : Prototype → List ℕ → Type 0) (n : ℕ) (ps : List Prototype) (left after : ℕ) (bytes rest : List ℕ) : Type 0 where
  front : List ℕ
  whole : bytes ≡ front ++ rest
  spells : TimesOf Rule n ps front
  counted : left ≡ after + count (prototypes ps)

module _ {Rule : Prototype → List ℕ → Type 0} {get : ℕ → List ℕ → Got (Prototype × ℕ)} (exact : ExactWithin Rule get) where
  all_spelled : (n left middle before after : ℕ) (bytes behind others rest : List ℕ) (p : Prototype) (qs ps : List Prototype) →
      SpelledWithin Rule p left middle bytes behind → AllWithin Rule n qs middle before behind others → ps ≡ p ∷ qs → before ≡ after → others ≡ rest →
      AllWithin Rule (suc n) ps left after bytes rest
  all_spelled n left middle before after bytes behind others rest p qs ps a b is_ps is_after is_rest =
      let first_counted = a.counted in
      let others_counted = b.counted in
      record {
        front = a.front ++ (b.front ++ []);
        whole = rw (a.whole, b.whole, is_rest) (three a.front b.front rest);
        spells = then_rest p a.front (b.front ++ []) a.spells (then_rest qs b.front [] b.spells (record { value = is_ps; nothing = refl }));
        counted = rw is_ps (omega arith);
      }
    where
      three : (x y r : List ℕ) → x ++ (y ++ r) ≡ (x ++ (y ++ [])) ++ r
      three x y r = simp (append_assoc, append-nil)

  sound_all : (n left after : ℕ) (bytes rest : List ℕ) (ps : List Prototype) → read_functions get n left bytes ≡ read (ps, after) rest → AllWithin Rule n ps left after bytes rest
  sound_all zero left after bytes rest ps e =
      let pair = read_value e in
      let no_ps : ps ≡ [] = ap (λ q. q.0) (sym pair) in
      let same : left ≡ after = ap (λ q. q.1) pair in
      let behind = same_rest e in
      record { front = []; whole = behind; spells = record { value = no_ps; nothing = refl }; counted = rw no_ps (omega arith) }
  sound_all (suc n) left after bytes rest ps e =
      let h = halves (get left bytes) _ (ps, after) rest e in
      let k = halves (read_functions get n h.first.1 h.behind) _ (ps, after) rest h.got_rest in
      let pair = read_value k.got_rest in
      all_spelled n left h.first.1 k.first.1 after bytes h.behind k.behind rest h.first.0 k.first.0 ps
      (exact.sound left h.first.1 bytes h.behind h.first.0 h.got_first) (sound_all n h.first.1 k.first.1 h.behind k.behind k.first.0 k.got_first)
      (ap (λ q. q.0) (sym pair)) (ap (λ q. q.1) pair) (same_rest k.got_rest)

  complete_all : (n left after : ℕ) (ps : List Prototype) (front rest : List ℕ) → TimesOf Rule n ps front → left ≡ after + count (prototypes ps) → read_functions get n left (front ++ rest) ≡ read (ps, after) rest
  complete_all zero left after ps front rest h counted =
      let none_counted = rw h.value at counted in
      let same : left ≡ after = omega arith in
      rw (h.value, h.nothing, same) refl
  complete_all (suc n) left after ps front rest h counted =
      let t = h.spells_rest in
      let is_ps : ps ≡ h.first ∷ t.first = t.spells_rest.value in
      let all_counted = rw is_ps at counted in
      let split_first : left ≡ after + count (prototypes t.first) + function_count h.first = omega arith in
      let first_read = exact.complete left (after + count (prototypes t.first)) h.first h.front (h.back ++ rest) h.spells_first split_first in
      let no_more : t.back ≡ [] = t.spells_rest.nothing in
      let back_is : h.back ++ rest ≡ t.front ++ rest = ap (λ s. s ++ rest) (t.whole ∙ rw no_more (append-nil t.front)) in
      let others_read = complete_all n (after + count (prototypes t.first)) after t.first t.front rest t.spells_first refl in
      rw (at_front h rest, first_read, back_is, others_read, is_ps) refl

module _ {Inner : Option (List ℕ) → Prototype → List ℕ → Type 0} {get : Option (List ℕ) → ℕ → List ℕ → Got (Prototype × ℕ)} (exact : (source : Option (List ℕ)) → ExactWithin (Inner source) (get source)) where
  body_spelled : (parent : Option (List ℕ)) (head : Parts) (lists : Lists) (n : ℕ) (functions : List Prototype) (details : Details) (left after : ℕ)
      (bytes b1 b2 b3 b4 rest : List ℕ) → Spelled (HeadOf parent) head bytes b1 → Spelled ListsOf lists b1 b2 → Spelled NumberOf n b2 b3 →
      AllWithin (Inner head.source) n functions left after b3 b4 → Spelled DetailsOf details b4 rest →
      SpelledWithin (BodyOf Inner parent) (record { own = parts_of head lists details; inner = prototypes functions }) (suc left) after bytes rest
  body_spelled parent head lists n functions details left after bytes b1 b2 b3 b4 rest h l c f d =
      let all_counted = f.counted in
      record {
        front = h.front ++ (l.front ++ (c.front ++ (f.front ++ (d.front ++ []))));
        whole = rw (h.whole, l.whole, c.whole, f.whole, d.whole) (six h.front l.front c.front f.front d.front rest);
        spells = then_rest head h.front _ h.spells (then_rest lists l.front _ l.spells (then_rest n c.front _ c.spells
            (then_rest functions f.front _ f.spells (then_rest details d.front [] d.spells (record { value = refl; nothing = refl })))));
        counted = omega arith;
      }
    where
      six : (a b c d e r : List ℕ) → a ++ (b ++ (c ++ (d ++ (e ++ r)))) ≡ (a ++ (b ++ (c ++ (d ++ (e ++ []))))) ++ r
      six a b c d e r = simp (append_assoc, append-nil)

  sound_body : (parent : Option (List ℕ)) (left after : ℕ) (bytes rest : List ℕ) (p : Prototype) → read_body get parent left bytes ≡ read (p, after) rest →
      SpelledWithin (BodyOf Inner parent) p (suc left) after bytes rest
  sound_body parent left after bytes rest p e =
      let h = halves (read_head parent bytes) _ (p, after) rest e in
      let l = halves (read_lists h.behind) _ (p, after) rest h.got_rest in
      let c = halves (read_number l.behind) _ (p, after) rest l.got_rest in
      let f = halves (read_functions (get h.first.source) c.first left c.behind) _ (p, after) rest c.got_rest in
      let d = halves (read_details f.behind) _ (p, after) rest f.got_rest in
      finish parent left after bytes d.behind rest p _ f.first.1 (read_value d.got_rest) (same_rest d.got_rest)
      (body_spelled parent h.first l.first c.first f.first.0 d.first left f.first.1 bytes h.behind l.behind c.behind f.behind d.behind
      ((exact_head parent).sound bytes h.behind h.first h.got_first)
      (exact_lists.sound h.behind l.behind l.first l.got_first)
      (exact_number.sound l.behind c.behind c.first c.got_first)
      (sound_all (exact h.first.source) c.first left f.first.1 c.behind f.behind f.first.0 f.got_first)
      (exact_details.sound f.behind d.behind d.first d.got_first))
    where
      finish : (parent : Option (List ℕ)) (left after : ℕ) (bytes behind rest : List ℕ) (p q : Prototype) (left' : ℕ) → ◌≡◌ {A = Prototype × ℕ} (q, left') (p, after) → behind ≡ rest →
          SpelledWithin (BodyOf Inner parent) q (suc left) left' bytes behind → SpelledWithin (BodyOf Inner parent) p (suc left) after bytes rest
      finish parent left after bytes behind rest p q left' pair same s =
          let is_p : q ≡ p = ap (λ x. x.0) pair in
          let is_after : left' ≡ after = ap (λ x. x.1) pair in
          rw (← is_p, ← is_after, ← same) s

  complete_body : (parent : Option (List ℕ)) (left after : ℕ) (p : Prototype) (front rest : List ℕ) → BodyOf Inner parent p front → suc left ≡ after + function_count p →
      read_body get parent left (front ++ rest) ≡ read (p, after) rest
  complete_body parent left after p front rest t counted =
      let l = t.spells_rest in
      let c = l.spells_rest in
      let f = c.spells_rest in
      let d = f.spells_rest in
      let is_p = d.spells_rest.value in
      let no_more = d.spells_rest.nothing in
      let all_counted = rw is_p at counted in
      let inner_counted : left ≡ after + count (prototypes f.first) = omega arith in
      let head_read = (exact_head parent).complete t.first t.front (t.back ++ rest) t.spells_first in
      let lists_read = exact_lists.complete l.first l.front (l.back ++ rest) l.spells_first in
      let number_read = exact_number.complete c.first c.front (c.back ++ rest) c.spells_first in
      let all_read = complete_all (exact t.first.source) c.first left after f.first f.front (f.back ++ rest) f.spells_first inner_counted in
      let details_read = exact_details.complete d.first d.front (d.back ++ rest) d.spells_first in
      rw (at_front t rest, head_read, at_front l rest, lists_read, at_front c rest, number_read, at_front f rest, all_read, at_front d rest, details_read, no_more, is_p) refl

no_function : (parent : Option (List ℕ)) (left after : ℕ) (bytes rest : List ℕ) (p : Prototype) → read_function zero parent left bytes ≡ read (p, after) rest → SpelledWithin (FunctionOf zero parent) p left after bytes rest
unfolding read_function
no_function parent left after bytes rest p e = absurd (cc)

nothing_spelled : (parent : Option (List ℕ)) (left after : ℕ) (p : Prototype) (front rest : List ℕ) → FunctionOf zero parent p front → left ≡ after + function_count p → read_function zero parent left (front ++ rest) ≡ read (p, after) rest
unfolding FunctionOf
nothing_spelled parent left after p front rest h counted = absurd h

module _ (levels : ℕ) (parent : Option (List ℕ)) (exact : (source : Option (List ℕ)) → ExactWithin (FunctionOf levels source) (read_function levels source)) where
  sound_function : (left after : ℕ) (bytes rest : List ℕ) (p : Prototype) → read_function (suc levels) parent left bytes ≡ read (p, after) rest → SpelledWithin (FunctionOf (suc levels) parent) p left after bytes rest
  unfolding read_function FunctionOf
  sound_function zero after bytes rest p e = absurd (cc)
  sound_function (suc left) after bytes rest p e =
      let s = sound_body exact parent left after bytes rest p e in
      record { front = s.front; whole = s.whole; spells = s.spells; counted = s.counted }

  complete_function : (left after : ℕ) (p : Prototype) (front rest : List ℕ) → FunctionOf (suc levels) parent p front → left ≡ after + function_count p → read_function (suc levels) parent left (front ++ rest) ≡ read (p, after) rest
  unfolding read_function FunctionOf
  complete_function zero after p front rest h counted = absurd (omega arith)
  complete_function (suc left) after p front rest h counted = complete_body exact parent left after p front rest h counted

pub exact_function : (levels : ℕ) (parent : Option (List ℕ)) → ExactWithin (FunctionOf levels parent) (read_function levels parent)
exact_function zero parent = record { sound = no_function parent; complete = nothing_spelled parent }
exact_function (suc levels) parent =
    record { sound = sound_function levels parent (exact_function levels); complete = complete_function levels parent (exact_function levels) }

-- Code with jumps that are led later, part by part.
use Rattle.std.proofs.Common.{◌≡◌, ℕ, ◌+◌, ◌-◌, List, [], ◌∷◌, ◌++◌, length, refl, sym, ap, ap₂, subst, ◌∙◌, arith, append_assoc}
use Rattle.std.proofs.lemmas.List.{map-append, length-append, length-map}
use Rattle.std.specs.Prelude.{slice_set, slice_index_or}
use Rattle.std.proofs.Math.Seq.{set-append_seam, get_or-append_seam}
use Rattle.code_core.specs.declared.opcode.Opcode.TheVariants.{Jmp}
use Rattle.code_core.specs.Instruction.{op_ax}
use Rattle.code_of.specs.Coded.{Coded, jump_over}
use Rattle.code_core.specs.declared.proto.Const.{Const}
use Rattle.code_emitter.specs.declared.emitter.Step.{Step}
use Rattle.code_emitter.specs.Listing.{Listing, low, step, steps, followed, listed}
use Rattle.code_emitter.specs.Leading.{no_step, led, all_led, led_on, Opened}
use Rattle.code_emitter.proofs.Joining.{listing}

abbrev jump_step : (places : ℕ) → (line : ℕ) → Step
jump_step places line = record { instruction = low (op_ax Jmp (16777215 + places)); line = line }

led_at : (front : List Step) (x : Step) (rest : List Step) (place to places : ℕ) → place ≡ length front → to ≡ place + 1 + places → led place to (front ++ x ∷ rest) ≡ front ++ jump_step places x.line ∷ rest
led_at front x rest place to places at far =
    let distance : to - (place + 1) ≡ places = omega (arith, far) in
    ap₂ (λ i n. slice_set (front ++ x ∷ rest) i (jump_step n (slice_index_or (front ++ x ∷ rest) i no_step).line)) at distance
    ∙ ap (λ s. slice_set (front ++ x ∷ rest) (length front) (jump_step places s.line)) (get_or-append_seam front x rest no_step)
    ∙ set-append_seam front x rest (jump_step places x.line)

pub all_both : (ps qs : List ℕ) (to : ℕ) (xs : List Step) → all_led (ps ++ qs) to xs ≡ all_led qs to (all_led ps to xs)
all_both [] qs to xs = refl
all_both (p ∷ ps) qs to xs = all_both ps qs to (led p to xs)

one_more : (front : List Step) (x y : Step) (rest : List Step) → front ++ (x ∷ y ∷ rest) ≡ (front ++ x ∷ []) ++ y ∷ rest
one_more front x y rest = sym (append_assoc front (x ∷ []) (y ∷ rest))

-- a test and its jump
pub opened_test : (s r q : Listing) (x : Coded) (line place : ℕ) → r ≡ listed s (x ∷ []) → q ≡ listed r (jump_over 0 line ∷ []) → place ≡ length r.steps → Opened s q (λ ahead. x ∷ jump_over ahead line ∷ []) 0 (place ∷ [])
opened_test s r q x line place r_is q_is at =
    let whole : q ≡ listing s.constants ((s.steps ++ step x ∷ []) ++ step (jump_over 0 line) ∷ []) s.made = q_is ∙ ap (λ y. listed y (jump_over 0 line ∷ [])) r_is in
    let place_is : place ≡ length s.steps + 1 = at ∙ ap (λ y. length y.steps) r_is ∙ length-append s.steps (step x ∷ []) in
    record {
      draft = step x ∷ step (jump_over 0 line) ∷ [];
      constants_is = ap (λ y. y.constants) whole;
      made_is = ap (λ y. y.made) whole ∙ omega arith;
      steps_is = ap (λ y. y.steps) whole ∙ append_assoc s.steps (step x ∷ []) (step (jump_over 0 line) ∷ []);
      size = λ ahead. refl;
      leads = λ front rest ahead here.
          let size = length-append front (step x ∷ []) in
          ap (led place (length front + 2 + ahead)) (one_more front (step x) (step (jump_over 0 line)) rest)
          ∙ led_at (front ++ step x ∷ []) (step (jump_over 0 line)) rest place (length front + 2 + ahead) ahead (omega (arith, place_is, here, size)) (omega (arith, place_is, here))
          ∙ sym (one_more front (step x) (step (jump_over ahead line)) rest);
    }

-- a jump alone
pub opened_jump : (s q : Listing) (line place : ℕ) → q ≡ listed s (jump_over 0 line ∷ []) → place ≡ length s.steps → Opened s q (λ ahead. jump_over ahead line ∷ []) 0 (place ∷ [])
opened_jump s q line place q_is at = record {
  draft = step (jump_over 0 line) ∷ [];
  constants_is = ap (λ y. y.constants) q_is;
  made_is = ap (λ y. y.made) q_is ∙ omega arith;
  steps_is = ap (λ y. y.steps) q_is;
  size = λ ahead. refl;
  leads = λ front rest ahead here. led_at front (step (jump_over 0 line)) rest place (length front + 1 + ahead) ahead (at ∙ sym here) (omega (arith, at, here));
}

-- no code
pub opened_nothing : (s : Listing) → Opened s s (λ ahead. []) 0 []
opened_nothing s = record {
  draft = [];
  constants_is = refl;
  made_is = omega arith;
  steps_is = sym (append_nil s.steps);
  size = λ ahead. refl;
  leads = λ front rest ahead here. refl;
}
  where
    append_nil : (xs : List Step) → xs ++ [] ≡ xs
    append_nil [] = refl
    append_nil (x ∷ xs) = ap (λ l. x ∷ l) (append_nil xs)

-- the same code, said otherwise

pub opened_remade : (s q : Listing) (code : ℕ → List Coded) (m n : ℕ) (places : List ℕ) → m ≡ n → Opened s q code m places → Opened s q code n places
opened_remade s q code m n places e o = subst (λ i. Opened s q code i places) e o

pub opened_at : (s q : Listing) (code : ℕ → List Coded) (m : ℕ) (places items : List ℕ) → items ≡ places → Opened s q code m places → Opened s q code m items
opened_at s q code m places items e o = subst (λ l. Opened s q code m l) (sym e) o

pub opened_coded : (s q : Listing) (code other : ℕ → List Coded) (m : ℕ) (places : List ℕ) → ((ahead : ℕ) → code ahead ≡ other ahead) → Opened s q code m places → Opened s q other m places
opened_coded s q code other m places same o = record {
  draft = o.draft;
  constants_is = o.constants_is;
  made_is = o.made_is;
  steps_is = o.steps_is;
  size = λ ahead. o.size ahead ∙ ap length (same ahead);
  leads = λ front rest ahead here. o.leads front rest ahead here ∙ ap (λ c. front ++ (steps c ++ rest)) (same ahead);
}

-- behind code without such jumps
pub opened_behind : (s r q : Listing) (a : List Coded) (m : ℕ) (code : ℕ → List Coded) (n : ℕ) (places : List ℕ) → r ≡ followed s a m → Opened r q code n places → Opened s q (λ ahead. a ++ code ahead) (m + n) places
opened_behind s r q a m code n places r_is o =
    let front_size : length r.steps ≡ length s.steps + length (steps a) = ap (λ y. length y.steps) r_is ∙ length-append s.steps (steps a) in
    record {
      draft = steps a ++ o.draft;
      constants_is = o.constants_is ∙ ap (λ y. y.constants) r_is;
      made_is = (let e = o.made_is in let d = ap (λ y. y.made) r_is in omega (arith, e, d));
      steps_is = o.steps_is ∙ ap (λ y. y.steps ++ o.draft) r_is ∙ append_assoc s.steps (steps a) o.draft;
      size = λ ahead. (let e = o.size ahead in let f = length-append (steps a) o.draft in let g = length-append a (code ahead) in let h = length-map a step in omega (arith, e, f, g, h));
      leads = λ front rest ahead here.
          let size = length-append front (steps a) in
          let both = length-append (steps a) o.draft in
          let to : length front + length (steps a ++ o.draft) + ahead ≡ length (front ++ steps a) + length o.draft + ahead = omega (arith, size, both) in
          ap₂ (λ n xs. all_led places n xs) to (ap (λ l. front ++ l) (append_assoc (steps a) o.draft rest) ∙ sym (append_assoc front (steps a) (o.draft ++ rest)))
          ∙ o.leads (front ++ steps a) rest ahead (omega (arith, size, front_size, here))
          ∙ append_assoc front (steps a) (steps (code ahead) ++ rest)
          ∙ ap (λ l. front ++ l) (sym (append_assoc (steps a) (steps (code ahead)) rest) ∙ ap (λ l. l ++ rest) (sym (map-append step a (code ahead))));
    }

-- both parts lead away: the first one's jumps lead over the second one too
pub opened_both : (s r q : Listing) (a b : ℕ → List Coded) (m n : ℕ) (ps qs : List ℕ) → Opened s r a m ps → Opened r q b n qs → Opened s q (λ ahead. a (length (b ahead) + ahead) ++ b ahead) (m + n) (qs ++ ps)
opened_both s r q a b m n ps qs o u =
    let between : length r.steps ≡ length s.steps + length o.draft = ap length o.steps_is ∙ length-append s.steps o.draft in
    record {
      draft = o.draft ++ u.draft;
      constants_is = u.constants_is ∙ o.constants_is;
      made_is = (let e = o.made_is in let d = u.made_is in omega (arith, e, d));
      steps_is = u.steps_is ∙ ap (λ l. l ++ u.draft) o.steps_is ∙ append_assoc s.steps o.draft u.draft;
      size = λ ahead. (let e = o.size (length (b ahead) + ahead) in let d = u.size ahead in let f = length-append o.draft u.draft in let g = length-append (a (length (b ahead) + ahead)) (b ahead) in omega (arith, e, d, f, g));
      leads = λ front rest ahead here.
          let size = length-append front o.draft in
          let whole = length-append o.draft u.draft in
          let end : ℕ = length front + length (o.draft ++ u.draft) + ahead in
          let far : end ≡ length (front ++ o.draft) + length u.draft + ahead = omega (arith, size, whole) in
          let near : end ≡ length front + length o.draft + (length (b ahead) + ahead) = (let d = u.size ahead in omega (arith, whole, d)) in
          all_both qs ps end (front ++ ((o.draft ++ u.draft) ++ rest))
          ∙ ap (all_led ps end)
          (ap₂ (λ n xs. all_led qs n xs) far (ap (λ l. front ++ l) (append_assoc o.draft u.draft rest) ∙ sym (append_assoc front o.draft (u.draft ++ rest)))
          ∙ u.leads (front ++ o.draft) rest ahead (omega (arith, size, between, here))
          ∙ append_assoc front o.draft (steps (b ahead) ++ rest))
          ∙ ap (λ n. all_led ps n (front ++ (o.draft ++ (steps (b ahead) ++ rest)))) near
          ∙ o.leads front (steps (b ahead) ++ rest) (length (b ahead) + ahead) here
          ∙ ap (λ l. front ++ l)
          (sym (append_assoc (steps (a (length (b ahead) + ahead))) (steps (b ahead)) rest)
          ∙ ap (λ l. l ++ rest) (sym (map-append step (a (length (b ahead) + ahead)) (b ahead))));
    }

-- the first part's jumps are led to the end of the second one
pub opened_past : (s r q t : Listing) (a b : ℕ → List Coded) (m n : ℕ) (ps qs : List ℕ) → Opened s r a m ps → Opened r q b n qs → t ≡ led_on q ps (length q.steps)
    → Opened s t (λ ahead. a (length (b ahead) + 0) ++ b ahead) (m + n) qs
opened_past s r q t a b m n ps qs o u t_is =
    let between : length r.steps ≡ length s.steps + length o.draft = ap length o.steps_is ∙ length-append s.steps o.draft in
    let all : q.steps ≡ s.steps ++ (o.draft ++ u.draft) = u.steps_is ∙ ap (λ l. l ++ u.draft) o.steps_is ∙ append_assoc s.steps o.draft u.draft in
    let count : length q.steps ≡ length s.steps + length o.draft + length u.draft = (let e = ap length u.steps_is ∙ length-append r.steps u.draft in omega (arith, e, between)) in
    let first : List Step = steps (a (length u.draft)) in
    let landed : all_led ps (length q.steps) q.steps ≡ s.steps ++ (first ++ u.draft) =
    ap₂ (λ n xs. all_led ps n xs) count all ∙ o.leads s.steps u.draft (length u.draft) refl in
    let same : (ahead : ℕ) → length (b ahead) + 0 ≡ length u.draft = λ ahead. (let d = u.size ahead in omega (arith, d)) in
    let sized : length first ≡ length o.draft = length-map (a (length u.draft)) step ∙ sym (o.size (length u.draft)) in
    record {
      draft = first ++ u.draft;
      constants_is = ap (λ y. y.constants) t_is ∙ u.constants_is ∙ o.constants_is;
      made_is = (let e = o.made_is in let d = u.made_is in let f = ap (λ y. y.made) t_is in omega (arith, e, d, f));
      steps_is = ap (λ y. y.steps) t_is ∙ landed;
      size = λ ahead.
          (let d = u.size ahead in let f = length-append first u.draft in let g = length-append (a (length (b ahead) + 0)) (b ahead) in let h = ap (λ n. length (a n)) (same ahead) in let i = o.size (length u.draft) in
          omega (arith, d, f, g, h, i, sized));
      leads = λ front rest ahead here.
          let size = length-append front first in
          let whole = length-append first u.draft in
          let to : length front + length (first ++ u.draft) + ahead ≡ length (front ++ first) + length u.draft + ahead = omega (arith, size, whole) in
          ap₂ (λ n xs. all_led qs n xs) to (ap (λ l. front ++ l) (append_assoc first u.draft rest) ∙ sym (append_assoc front first (u.draft ++ rest)))
          ∙ u.leads (front ++ first) rest ahead (omega (arith, size, sized, between, here))
          ∙ append_assoc front first (steps (b ahead) ++ rest)
          ∙ ap (λ k. front ++ (steps (a k) ++ (steps (b ahead) ++ rest))) (sym (same ahead))
          ∙ ap (λ l. front ++ l)
          (sym (append_assoc (steps (a (length (b ahead) + 0))) (steps (b ahead)) rest)
          ∙ ap (λ l. l ++ rest) (sym (map-append step (a (length (b ahead) + 0)) (b ahead))));
    }

-- the jumps are led on, with more code behind
pub opened_led : (s r q t : Listing) (code : ℕ → List Coded) (m : ℕ) (places : List ℕ) (more : List Coded) (n to ahead : ℕ) → Opened s r code m places → q ≡ followed r more n → to ≡ length r.steps + ahead → t ≡ led_on q places to
    → t ≡ followed s (code ahead ++ more) (m + n)
opened_led s r q t code m places more n to ahead o q_is to_is t_is =
    let after : q.steps ≡ s.steps ++ (o.draft ++ steps more) = ap (λ y. y.steps) q_is ∙ ap (λ l. l ++ steps more) o.steps_is ∙ append_assoc s.steps o.draft (steps more) in
    let r_long : length r.steps ≡ length s.steps + length o.draft = ap length o.steps_is ∙ length-append s.steps o.draft in
    let there : to ≡ length s.steps + length o.draft + ahead = omega (arith, to_is, r_long) in
    let landed : all_led places to q.steps ≡ s.steps ++ steps (code ahead ++ more) =
    ap₂ (λ n xs. all_led places n xs) there after ∙ o.leads s.steps (steps more) ahead refl ∙ ap (λ l. s.steps ++ l) (sym (map-append step (code ahead) more)) in
    let made_is : q.made ≡ s.made + (m + n) = (let e = o.made_is in let d = ap (λ y. y.made) q_is in omega (arith, e, d)) in
    t_is ∙ ap₂ (λ c k. listing c (all_led places to q.steps) k) (ap (λ y. y.constants) q_is ∙ o.constants_is) made_is ∙ ap (λ xs. listing s.constants xs (s.made + (m + n))) landed

-- the second operand of `and` and `or` stands where the first one ends
pub opened_from : (r q : Listing) (f : List Const → ℕ → ℕ → List Coded) (n : ℕ) (places : List ℕ) (k : List Const) (j : ℕ) → r.constants ≡ k → r.made ≡ j → Opened r q (f r.constants r.made) n places → Opened r q (f k j) n places
opened_from r q f n places k j k_is j_is o = subst (λ i. Opened r q (f k i) n places) j_is (subst (λ c. Opened r q (f c r.made) n places) k_is o)

-- how long a condition is
pub opened_long : (s r : Listing) (code : ℕ → List Coded) (m : ℕ) (places : List ℕ) → Opened s r code m places → length r.steps ≡ length s.steps + length (code 0)
opened_long s r code m places o = ap length o.steps_is ∙ length-append s.steps o.draft ∙ ap (λ n. length s.steps + n) (o.size 0)

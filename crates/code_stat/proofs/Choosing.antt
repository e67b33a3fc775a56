-- An `if`: the first of its arms, and what the others come to. Where these have no code, no jump leads past them.
use Rattle.std.proofs.Common.{arith, ℕ, suc, ◌+◌, ◌≡◌, Bool, true, List, [], ◌∷◌, ◌++◌, refl, sym, ap, ap₂, ◌∙◌, append_assoc, length, take, Option, Some, None}
use Rattle.std.proofs.lemmas.List.{length-append}
use Rattle.std.proofs.Math.Seq.{take-append_seam}
use Rattle.tree_core.specs.Tree.{Block, Exp, Arms, EndArms, MoreArms, If, IfElse}
use Rattle.code_core.specs.declared.proto.Const.{Const}
use Rattle.code_of.specs.declared.leaving.Leaving.{Leaving}
use Rattle.code_of.specs.Coded.{Coded, jump_over}
use Rattle.code_of.specs.Conditions.{test_code}
use Rattle.code_of.specs.Expressions.{made_by}
use Rattle.code_of.specs.Jumps.{Reach}
use Rattle.code_of.specs.Levels.{made_by_stat, made_in_arms, made_in_block}
use Rattle.code_of.specs.Parts.{past_size, past, arm_code}
use Rattle.code_of.specs.Sizes.{stat_size, arms_size, block_size}
use Rattle.code_of.specs.Statements.{stat_code, arms_code, block_code}
use Rattle.code_emitter.specs.Leading.{led_on, Opened}
use Rattle.code_emitter.specs.Listing.{Listing, followed, listed}
use Rattle.code_emitter.proofs.Joining.{after, after_listed, none_made}
use Rattle.code_emitter.proofs.Leading.{opened_led, opened_long}
use Rattle.code_stat.specs.declared.writer.Writer.{Writer}
use Rattle.code_stat.specs.Drafts.{Wrote, WroteStat, WroteBlock}
use Rattle.code_stat.specs.Forms.{choice}
use Rattle.code_of.proofs.Sizes.{test_sized, stat_sized, block_sized}
use Rattle.code_stat.proofs.Blocks.{nowhere}
use Rattle.code_stat.proofs.Ends.{remade}
use Rattle.code_stat.proofs.Looping.{form_at, block_form, block_long}
use Rattle.code_stat.proofs.Drafting.{Form, formed, draft_sized, recoded, stands_at, behind_other, then_wrote, enclosed, front_sized, written_sized}

-- what is written counts alike where something else of the same length stands in front
pub rebased :
    (p q m b : Writer) (n : ℕ) (f : Reach → List Coded) (v : Wrote p q n f) → length m.emitter.steps ≡ length p.emitter.steps
    → b.emitter ≡ followed m.emitter v.draft n → b.jumps.items ≡ m.jumps.items ++ v.jumps → b.back ≡ m.back → Wrote m b n f
rebased p q m b n f v same e jumps back = record {
  draft = v.draft;
  jumps = v.jumps;
  emitter_is = e;
  jumps_are = jumps;
  back_is = back;
  fills = λ reach front more h. v.fills reach front more (h ∙ same);
}

-- the code of the whole by that of its parts

choice_size : List Const → Leaving → (line : ℕ) → Arms → Option Block → (closing : Bool) → (t j : ℕ) → ℕ
choice_size k back line arms o closing t j = stat_size k back (choice line arms o) closing t j

pub places : (n b s c : ℕ) (pc : ℕ) → pc + (n + (b + (s + c))) ≡ pc + n + b + s + c
places n b s c pc = omega arith

module _ (k : List Const) (back : Leaving) (e : Exp) (block : Block) (arms : Arms) (closing : Bool) (t line j pc : ℕ) (reach : Reach) where
  abbrev test : ℕ → List Coded
  test ahead = test_code k e true ahead t j

  abbrev k' : ℕ
  k' = j + made_by e + made_in_block block

  abbrev inner : List Coded
  inner = block_code k back block closing t t (j + made_by e) (pc + length (test 0)) reach

  abbrev behind_of : ℕ → ℕ
  behind_of size = pc + length (test 0) + block_size k back block closing t t (j + made_by e) + past_size size

  choice_none : arm_code test inner (stat_code k back (If line arms) closing t k' (behind_of (stat_size k back (If line arms) closing t k')) reach) line ≡ stat_code k back (If line (MoreArms e block arms)) closing t j pc reach
  choice_none = ap (λ n. arm_code test inner (arms_code k back arms [] closing t k' (behind_of n) line reach) line) (none_more (arms_size k back arms 0 closing t k'))
    where
      none_more : (n : ℕ) → n ≡ n + 0
      none_more n = omega arith

  choice_some : (other : Block) → arm_code test inner (stat_code k back (IfElse line arms other) closing t k' (behind_of (stat_size k back (IfElse line arms other) closing t k')) reach) line ≡ stat_code k back (IfElse line (MoreArms e block arms) other) closing t j pc reach
  choice_some other =
      let later : ℕ = k' + made_in_arms arms in
      let size : ℕ = block_size k back other closing t t later in
      let others : ℕ = arms_size k back arms size closing t k' in
      let here : ℕ = behind_of (others + size) + others in
      let there : pc + arms_size k back (MoreArms e block arms) size closing t j ≡ here = places (length (test 0)) (block_size k back block closing t t (j + made_by e)) (past_size (others + size)) others pc in
      let code : List Coded = block_code k back other closing t t later here reach in
      let number : j + made_in_arms (MoreArms e block arms) ≡ later = omega arith in
      sym (ap (λ n. arms_code k back (MoreArms e block arms) (block_code k back other closing t t n (pc + arms_size k back (MoreArms e block arms) (block_size k back other closing t t n) closing t j) reach) closing t j pc line reach) number
      ∙ ap (λ n. arms_code k back (MoreArms e block arms) (block_code k back other closing t t later n reach) closing t j pc line reach) there
      ∙ ap (λ n. arm_code test inner (arms_code k back arms code closing t k' (behind_of (arms_size k back arms n closing t k' + n)) line reach) line) (block_sized k back other closing t t later here reach))

  pub choice_is : (o : Option Block) → arm_code test inner (stat_code k back (choice line arms o) closing t k' (behind_of (stat_size k back (choice line arms o) closing t k')) reach) line ≡ stat_code k back (choice line (MoreArms e block arms) o) closing t j pc reach
  choice_is None = choice_none
  choice_is (Some other) = choice_some other

choice_made : (e : Exp) (block : Block) (arms : Arms) (line : ℕ) (o : Option Block) → made_by e + made_in_block block + made_by_stat (choice line arms o) ≡ made_by_stat (choice line (MoreArms e block arms) o)
choice_made e block arms line None = refl
choice_made e block arms line (Some other) = omega arith

-- the jump past what is left

past_full : (rest : List Coded) (line n : ℕ) → length rest ≡ suc n → past rest line ≡ jump_over (length rest) line ∷ []
past_full [] line n h = absurd (omega (arith, h))
past_full (x ∷ rest) line n h = refl

none_there : (code : List Coded) → length code ≡ 0 → code ≡ []
none_there [] h = refl
none_there (x ∷ code) h = absurd (omega (arith, h))

full_form :
    (test : ℕ → List Coded) (block rest : List Coded) (line d m n : ℕ) → d ≡ length block + 1 → m ≡ length rest → length rest ≡ suc n
    → (test d ++ (block ++ jump_over m line ∷ [])) ++ rest ≡ arm_code test block rest line
full_form test block rest line d m n d_is m_is h =
    append_assoc (test d) (block ++ jump_over m line ∷ []) rest
    ∙ ap (λ l. test d ++ l) (append_assoc block (jump_over m line ∷ []) rest)
    ∙ ap₂ (λ u v. test u ++ (block ++ (jump_over v line ∷ rest))) d_is m_is
    ∙ ap (λ p. test (length block + length p) ++ (block ++ (p ++ rest))) (sym (past_full rest line n h))

empty_form : (test : ℕ → List Coded) (block rest : List Coded) (line d : ℕ) → d ≡ length block → rest ≡ [] → test d ++ (block ++ []) ≡ arm_code test block rest line
empty_form test block rest line d d_is h =
    ap (λ u. test u ++ (block ++ [])) (d_is ∙ none_more (length block))
    ∙ ap (λ r. test (length block + length (past r line)) ++ (block ++ (past r line ++ r))) (sym h)
  where
    none_more : (n : ℕ) → n ≡ n + 0
    none_more n = omega arith

-- the first arm is written, and a jump past what is left that is still open

abbrev other_form : Arms → Option Block → (closing : Bool) → (t line : ℕ) → Form
other_form arms o closing t line k back j pc reach = stat_code k back (choice line arms o) closing t j pc reach

abbrev pub open_jump : (line : ℕ) → List Coded
open_jump line = jump_over 0 line ∷ []

-- where the writer stands then
pub record Past (a r : Writer) (m n : ℕ) : Type 0 where
  pub constants_is : r.emitter.constants ≡ a.emitter.constants
  pub back_is : r.back ≡ a.back
  pub made_is : r.emitter.made ≡ a.emitter.made + m
  pub long : length r.emitter.steps ≡ length a.emitter.steps + n

pub first_past :
    (a p q r : Writer) (code : ℕ → List Coded) (m n line : ℕ) (f : Reach → List Coded) (away : List ℕ) → Opened a.emitter p.emitter code m away → p.back ≡ a.back → (w : Wrote p q n f)
    → r.emitter ≡ listed q.emitter (open_jump line) → r.back ≡ q.back → Past a r (m + n) (length (code 0) + length w.draft + 1)
first_past a p q r code m n line f away o pb w r_is rb =
    let p_long = opened_long a.emitter p.emitter code m away o in
    let q_long = written_sized p.emitter q.emitter w.draft n w.emitter_is in
    let r_long = written_sized q.emitter r.emitter (open_jump line) 0 (r_is ∙ sym (none_made q.emitter (open_jump line))) in
    let p_made = o.made_is in
    let q_made = ap (λ s. s.made) w.emitter_is in
    let r_made = ap (λ s. s.made) r_is in
    record {
      constants_is = ap (λ s. s.constants) r_is ∙ ap (λ s. s.constants) w.emitter_is ∙ o.constants_is;
      back_is = rb ∙ w.back_is ∙ pb;
      made_is = omega (arith, p_made, q_made, r_made);
      long = omega (arith, p_long, q_long, r_long);
    }

-- what the others come to, in front of which the first arm has n instructions
others_sized :
    (a r u : Writer) (arms : Arms) (o : Option Block) (closing : Bool) (t line m n : ℕ) → Past a r m n → (v : WroteStat r u (choice line arms o) closing t)
    → stat_size a.emitter.constants a.back (choice line arms o) closing t (a.emitter.made + m) ≡ length v.draft
others_sized a r u arms o closing t line m n past v =
    sym (stands_at (λ k back j pc. stat_size k back (choice line arms o) closing t j) r a.emitter.constants a.back (a.emitter.made + m) (length a.emitter.steps + n) past.constants_is past.back_is past.made_is past.long)
    ∙ sym (stat_sized r.emitter.constants r.back (choice line arms o) closing t r.emitter.made (length r.emitter.steps) nowhere)
    ∙ draft_sized r u (made_by_stat (choice line arms o)) (formed (other_form arms o closing t line) r) v nowhere

-- something is left, and the jump leads past it

pub full_wrote :
    (a p q r u b : Writer) (s6 : Listing) (e : Exp) (block : Block) (arms : Arms) (o : Option Block) (closing : Bool) (t line over place n : ℕ) (away : List ℕ)
    → Opened a.emitter p.emitter (λ ahead. test_code a.emitter.constants e true ahead t a.emitter.made) (made_by e) away
    → p.jumps.items ≡ a.jumps.items → p.back ≡ a.back
    → WroteBlock p q block closing t t
    → r.emitter ≡ listed q.emitter (open_jump line) → over ≡ length q.emitter.steps → r.jumps.items ≡ q.jumps.items → r.back ≡ q.back → place ≡ length r.emitter.steps
    → WroteStat r u (choice line arms o) closing t → length u.emitter.steps ≡ length r.emitter.steps + suc n
    → ((before : Listing) (line : ℕ) (code : List Coded) (made : ℕ) → over ≡ length before.steps → u.emitter ≡ followed (listed before (jump_over 0 line ∷ [])) code made → s6 ≡ followed before (jump_over (length code) line ∷ code) made)
    → b.emitter ≡ led_on s6 away place → b.jumps.items ≡ u.jumps.items → b.back ≡ u.back
    → WroteStat a b (choice line (MoreArms e block arms) o) closing t
full_wrote a p q r u b s6 e block arms o closing t line over place n away opened pj pb w r_is over_is rj rb place_is v some lands led bj bb =
    let k = a.emitter.constants in let j = a.emitter.made in let pc = length a.emitter.steps in let m = made_in_block block in let m2 = made_by_stat (choice line arms o) in
    let first_test : ℕ → List Coded = λ ahead. test_code k e true ahead t j in
    let s0 : Listing = followed a.emitter (first_test 0) (made_by e) in let p0 : Writer = record p { emitter = s0 } in let q0 : Writer = record q { emitter = followed s0 w.draft m } in
    let w0 : WroteBlock p0 q0 block closing t t = behind_other a p q first_test (made_by e) m away (block_form block closing t t) w opened in
    let size = block_size k a.back block closing t t (j + made_by e) in
    let d = length w.draft + 1 in
    let x = first_test d in
    let last = jump_over (length v.draft) line ∷ [] in
    let front = x ++ (w.draft ++ last) in
    let long : length w.draft ≡ size = block_long a p0 q0 (made_by e) (length (first_test 0)) m block closing t t (first_test 0) w0 refl pb refl in
    let sized : length x ≡ length (first_test 0) = test_sized k e true d t j in
    let gone = first_past a p q r first_test (made_by e) m line (formed (block_form block closing t t) p) away opened pb w r_is rb in
    let p_long = opened_long a.emitter p.emitter first_test (made_by e) away opened in
    let r_long = gone.long in
    let u_is : u.emitter ≡ followed (listed q.emitter (open_jump line)) v.draft m2 = v.emitter_is ∙ ap (λ s. followed s v.draft m2) r_is in
    let six : s6 ≡ followed p.emitter (w.draft ++ (last ++ v.draft)) (m + m2) = lands q.emitter line v.draft m2 over_is u_is ∙ ap (λ s. followed s (last ++ v.draft) m2) w.emitter_is ∙ after p.emitter w.draft m (last ++ v.draft) m2 in
    let b_is : b.emitter ≡ followed a.emitter (x ++ (w.draft ++ (last ++ v.draft))) (made_by e + (m + m2)) =
    opened_led a.emitter p.emitter s6 b.emitter first_test (made_by e) away (w.draft ++ (last ++ v.draft)) (m + m2) place d opened six (omega (arith, place_is, p_long, r_long)) led in
    let middle : Writer = record q { emitter = followed a.emitter front (made_by e + m) } in
    let first : Wrote a middle (made_by e + m) (λ reach. x ++ (formed (block_form block closing t t) p0 reach ++ last)) =
    enclosed a p0 q0 middle (made_by e + m) m (formed (block_form block closing t t) p0) w0 x last w.jumps (λ reach. reach) (front_sized a.emitter.steps (first_test 0) pc refl ∙ ap (λ l. pc + l) (sym sized)) refl
    (w.jumps_are ∙ ap (λ l. l ++ w.jumps) pj) (w.back_is ∙ pb) (λ reach xs. refl) in
    let middle_long : length middle.emitter.steps ≡ pc + length front = written_sized a.emitter middle.emitter front (made_by e + m) refl in
    let front_long : length front ≡ length (first_test 0) + length w.draft + 1 = (let y1 = length-append x (w.draft ++ last) in let y2 = length-append w.draft last in omega (arith, y1, y2, sized)) in
    let b_from : b.emitter ≡ followed middle.emitter v.draft m2 =
    b_is
    ∙ ap₂ (followed a.emitter) (sym (append_assoc x (w.draft ++ last) v.draft ∙ ap (λ l. x ++ l) (append_assoc w.draft last v.draft))) (sum (made_by e) m m2)
    ∙ sym (after a.emitter front (made_by e + m) v.draft m2) in
    let second : Wrote middle b m2 (formed (other_form arms o closing t line) r) =
    rebased r u middle b m2 (formed (other_form arms o closing t line) r) v (omega (arith, middle_long, front_long, r_long)) b_from (bj ∙ v.jumps_are ∙ ap (λ l. l ++ v.jumps) rj) (bb ∙ v.back_is ∙ rb) in
    let v_long : length v.draft ≡ suc n = (let y = written_sized r.emitter u.emitter v.draft m2 v.emitter_is in omega (arith, y, some)) in
    let number : j + (made_by e + m) ≡ j + made_by e + m = omega arith in
    let size_is : stat_size k a.back (choice line arms o) closing t (j + made_by e + m) ≡ suc n =
    ap (stat_size k a.back (choice line arms o) closing t) (sym number) ∙ others_sized a r u arms o closing t line (made_by e + m) (length (first_test 0) + length w.draft + 1) gone v ∙ v_long in
    let there : ℕ = pc + length (first_test 0) + size + past_size (stat_size k a.back (choice line arms o) closing t (j + made_by e + m)) in
    let behind : length r.emitter.steps ≡ there = (let y = ap past_size size_is in omega (arith, r_long, long, y)) in
    remade a b (made_by e + m + m2) (made_by_stat (choice line (MoreArms e block arms) o)) _ (choice_made e block arms line o)
    (recoded a b (made_by e + m + m2) (λ reach. (x ++ (formed (block_form block closing t t) p0 reach ++ last)) ++ formed (other_form arms o closing t line) r reach) _
    (then_wrote a middle b (made_by e + m) m2 (λ reach. x ++ (formed (block_form block closing t t) p0 reach ++ last)) (formed (other_form arms o closing t line) r) first second)
    (λ reach.
    let inside : List Coded = block_code k a.back block closing t t (j + made_by e) (pc + length (first_test 0)) reach in
    let rest : List Coded = stat_code k a.back (choice line arms o) closing t (j + made_by e + m) there reach in
    let block_is : formed (block_form block closing t t) p0 reach ≡ inside = form_at (block_form block closing t t) a p0 (made_by e) (first_test 0) (length (first_test 0)) refl pb refl reach in
    let rest_is : formed (other_form arms o closing t line) r reach ≡ rest =
    stands_at (λ k back j pc. other_form arms o closing t line k back j pc reach) r k a.back (j + made_by e + m) there gone.constants_is gone.back_is (gone.made_is ∙ number) behind in
    let rest_long : length rest ≡ suc n = stat_sized k a.back (choice line arms o) closing t (j + made_by e + m) there reach ∙ size_is in
    let inside_long : length inside ≡ size = block_sized k a.back block closing t t (j + made_by e) (pc + length (first_test 0)) reach in
    ap₂ (λ l c. (x ++ (l ++ last)) ++ c) block_is rest_is
    ∙ full_form first_test inside rest line d (length v.draft) n (ap (λ l. l + 1) (long ∙ sym inside_long)) (v_long ∙ sym rest_long) rest_long
    ∙ choice_is k a.back e block arms closing t line j pc reach o))
  where
    sum : (i m n : ℕ) → i + (m + n) ≡ i + m + n
    sum i m n = omega arith

-- nothing is left, and the jump past it is taken back

pub empty_wrote :
    (a p q r u b : Writer) (s6 : Listing) (e : Exp) (block : Block) (arms : Arms) (o : Option Block) (closing : Bool) (t line over first : ℕ) (away : List ℕ)
    → Opened a.emitter p.emitter (λ ahead. test_code a.emitter.constants e true ahead t a.emitter.made) (made_by e) away
    → p.jumps.items ≡ a.jumps.items → p.back ≡ a.back
    → WroteBlock p q block closing t t
    → r.emitter ≡ listed q.emitter (open_jump line) → over ≡ length q.emitter.steps → r.jumps.items ≡ q.jumps.items → r.back ≡ q.back → first ≡ length r.jumps.items
    → WroteStat r u (choice line arms o) closing t → length u.emitter.steps ≡ length r.emitter.steps
    → ((before : Listing) (code : List Coded) (made : ℕ) → over ≡ length before.steps → u.emitter ≡ followed before code made → s6 ≡ followed before [] made)
    → b.emitter ≡ led_on s6 away over → b.jumps.items ≡ take first u.jumps.items → b.back ≡ u.back
    → WroteStat a b (choice line (MoreArms e block arms) o) closing t
empty_wrote a p q r u b s6 e block arms o closing t line over first away opened pj pb w r_is over_is rj rb first_is v none cuts led bj bb =
    let k = a.emitter.constants in let j = a.emitter.made in let pc = length a.emitter.steps in let m = made_in_block block in let m2 = made_by_stat (choice line arms o) in
    let first_test : ℕ → List Coded = λ ahead. test_code k e true ahead t j in
    let s0 : Listing = followed a.emitter (first_test 0) (made_by e) in let p0 : Writer = record p { emitter = s0 } in let q0 : Writer = record q { emitter = followed s0 w.draft m } in
    let w0 : WroteBlock p0 q0 block closing t t = behind_other a p q first_test (made_by e) m away (block_form block closing t t) w opened in
    let size = block_size k a.back block closing t t (j + made_by e) in
    let d = length w.draft in
    let x = first_test d in
    let long : d ≡ size = block_long a p0 q0 (made_by e) (length (first_test 0)) m block closing t t (first_test 0) w0 refl pb refl in
    let sized : length x ≡ length (first_test 0) = test_sized k e true d t j in
    let gone = first_past a p q r first_test (made_by e) m line (formed (block_form block closing t t) p) away opened pb w r_is rb in
    let q_long = written_sized p.emitter q.emitter w.draft m w.emitter_is in
    let u_is : u.emitter ≡ followed q.emitter (jump_over 0 line ∷ v.draft) m2 = v.emitter_is ∙ ap (λ s. followed s v.draft m2) r_is ∙ after_listed q.emitter (open_jump line) v.draft m2 in
    let six : s6 ≡ followed p.emitter (w.draft ++ []) (m + m2) = cuts q.emitter (jump_over 0 line ∷ v.draft) m2 over_is u_is ∙ ap (λ s. followed s [] m2) w.emitter_is ∙ after p.emitter w.draft m [] m2 in
    let b_is : b.emitter ≡ followed a.emitter (x ++ (w.draft ++ [])) (made_by e + (m + m2)) =
    opened_led a.emitter p.emitter s6 b.emitter first_test (made_by e) away (w.draft ++ []) (m + m2) over d opened six (over_is ∙ q_long) led in
    let jumps : b.jumps.items ≡ a.jumps.items ++ w.jumps =
    bj ∙ ap₂ take first_is v.jumps_are ∙ take-append_seam r.jumps.items v.jumps ∙ rj ∙ w.jumps_are ∙ ap (λ l. l ++ w.jumps) pj in
    let v_long : length v.draft ≡ 0 = (let y = written_sized r.emitter u.emitter v.draft m2 v.emitter_is in omega (arith, y, none)) in
    let kept : b.back ≡ a.back = bb ∙ v.back_is ∙ rb ∙ w.back_is ∙ pb in
    let number : j + (made_by e + m) ≡ j + made_by e + m = omega arith in
    let size_is : stat_size k a.back (choice line arms o) closing t (j + made_by e + m) ≡ 0 =
    ap (stat_size k a.back (choice line arms o) closing t) (sym number) ∙ others_sized a r u arms o closing t line (made_by e + m) (length (first_test 0) + length w.draft + 1) gone v ∙ v_long in
    let there : ℕ = pc + length (first_test 0) + size + past_size (stat_size k a.back (choice line arms o) closing t (j + made_by e + m)) in
    remade a b (made_by e + (m + m2)) (made_by_stat (choice line (MoreArms e block arms) o)) _ (sum (made_by e) m m2 ∙ choice_made e block arms line o)
    (recoded a b (made_by e + (m + m2)) (λ reach. x ++ (formed (block_form block closing t t) p0 reach ++ [])) _
    (enclosed a p0 q0 b (made_by e + (m + m2)) m (formed (block_form block closing t t) p0) w0 x [] w.jumps (λ reach. reach) (front_sized a.emitter.steps (first_test 0) pc refl ∙ ap (λ l. pc + l) (sym sized)) b_is jumps kept (λ reach xs. refl))
    (λ reach.
    let inside : List Coded = block_code k a.back block closing t t (j + made_by e) (pc + length (first_test 0)) reach in
    let rest : List Coded = stat_code k a.back (choice line arms o) closing t (j + made_by e + m) there reach in
    let block_is : formed (block_form block closing t t) p0 reach ≡ inside = form_at (block_form block closing t t) a p0 (made_by e) (first_test 0) (length (first_test 0)) refl pb refl reach in
    let rest_long : length rest ≡ 0 = stat_sized k a.back (choice line arms o) closing t (j + made_by e + m) there reach ∙ size_is in
    let inside_long : length inside ≡ size = block_sized k a.back block closing t t (j + made_by e) (pc + length (first_test 0)) reach in
    ap (λ l. x ++ (l ++ [])) block_is
    ∙ empty_form first_test inside rest line d (long ∙ sym inside_long) (none_there rest rest_long)
    ∙ choice_is k a.back e block arms closing t line j pc reach o))
  where
    sum : (i m n : ℕ) → i + (m + n) ≡ i + m + n
    sum i m n = omega arith

-- no arm is left

pub ended_wrote : (a b : Writer) (block : Block) (closing : Bool) (t line : ℕ) → WroteBlock a b block closing t t → WroteStat a b (IfElse line EndArms block) closing t
ended_wrote a b block closing t line w =
    remade a b (made_in_block block) (0 + made_in_block block) _ (omega arith)
    (recoded a b (made_in_block block) (λ reach. block_code a.emitter.constants a.back block closing t t a.emitter.made (length a.emitter.steps) reach) _ w
    (λ reach. ap₂ (λ i n. block_code a.emitter.constants a.back block closing t t i n reach) (none_more a.emitter.made) (none_more (length a.emitter.steps))))
  where
    none_more : (n : ℕ) → n ≡ n + 0
    none_more n = omega arith

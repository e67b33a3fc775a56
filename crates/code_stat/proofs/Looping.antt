-- Loops: a block between the code in front of it and the code behind it, whose `break`s lead to a place behind.
use Rattle.std.proofs.Common.{arith, ℕ, ◌+◌, ◌-◌, ◌≡◌, Bool, true, false, List, [], ◌∷◌, ◌++◌, refl, sym, ap, ap₂, ◌∙◌, subst, length, take, drop, Option, Some, None}
use Rattle.std.proofs.lemmas.List.{length-append}
use Rattle.std.proofs.Math.Seq.{set-append_seam}
use Rattle.tree_core.specs.declared.name.Name.{Name}
use Rattle.tree_core.specs.Tree.{Block, Exp, Exps, While, Repeat, NumFor, NumForStep, GenFor}
use Rattle.tree_core.specs.Plain.{num_for_of}
use Rattle.tree_activation.specs.Activation.{line_of_end}
use Rattle.code_core.specs.declared.opcode.Opcode.TheVariants.{Close, ForLoop, ForPrep, TForPrep, TForCall, TForLoop}
use Rattle.code_core.specs.declared.proto.Const.{Const}
use Rattle.code_of.specs.declared.leaving.Leaving.{Leaving}
use Rattle.code_of.specs.Coded.{Coded, with_abc, with_abx, jump_back}
use Rattle.code_of.specs.Conditions.{test_code}
use Rattle.code_of.specs.Expressions.{made_by, made_in, exps_code}
use Rattle.code_of.specs.Jumps.{Reach}
use Rattle.code_of.specs.Levels.{made_in_block, closed_until}
use Rattle.tree_terms.specs.Levels.{levels_in}
use Rattle.code_of.specs.Parts.{close_code, while_code, counting_code, iterating_code, bounds_code, steps_code}
use Rattle.code_of.specs.Sizes.{stat_size, block_size, open_size}
use Rattle.code_of.specs.Statements.{in_loop, stat_code, block_code, open_code}
use Rattle.code_emitter.specs.declared.emitter.Step.{Step}
use Rattle.code_emitter.specs.Listing.{Listing, followed, listed, step, steps}
use Rattle.code_emitter.specs.Patches.{replaced}
use Rattle.code_emitter.specs.Leading.{led_on, Opened}
use Rattle.code_emitter.proofs.Joining.{listing, after, both_listed, none_made, listed_after}
use Rattle.code_emitter.proofs.Leading.{opened_led, opened_long}
use Rattle.code_stat.specs.declared.writer.Writer.{Writer}
use Rattle.code_stat.specs.Drafts.{arrives, fill, Wrote, WroteStat, WroteBlock, WroteOpen}
use Rattle.code_stat.specs.Forms.{until_code, counted_code, iterated_code, range_code, made_in_range}
use Rattle.code_of.proofs.Sizes.{test_sized, block_sized, open_sized, close_sized}
use Rattle.code_stat.proofs.Going.{two_listed}
use Rattle.code_stat.proofs.Blocks.{nowhere}
use Rattle.code_stat.proofs.Ends.{range_wrote}
use Rattle.code_stat.proofs.Drafting.{Form, formed, draft_sized, recoded, behind_other, enclosed, led_anew, behind_seam, written_sized}
use Rattle.code_expr.proofs.TargetSeats.{nothing_listed}
use Rattle.code_expr.proofs.Kept.{no_further}

pub form_at :
    (g : Form) (a p : Writer) (m : ℕ) (code : List Coded) (n : ℕ) → p.emitter ≡ followed a.emitter code m → p.back ≡ a.back → length code ≡ n
    → (reach : Reach) → formed g p reach ≡ g a.emitter.constants a.back (a.emitter.made + m) (length a.emitter.steps + n) reach
form_at g a p m code n e k h reach =
    ap (λ s. g s.constants p.back s.made (length p.emitter.steps) reach) e
    ∙ ap (λ b. g a.emitter.constants b (a.emitter.made + m) (length p.emitter.steps) reach) k
    ∙ ap (λ l. g a.emitter.constants a.back (a.emitter.made + m) l reach) (written_sized a.emitter p.emitter code m e ∙ ap (λ l. length a.emitter.steps + l) h)

-- a loop has ended: its code is this, and its `break`s lead behind it
pub record Ended (q b : Writer) (s : Listing) (first t : ℕ) : Type 0 where
  pub emitter_is : b.emitter ≡ s
  pub back_is : b.back ≡ q.back
  pub front : take first b.jumps.items ≡ take first q.jumps.items
  pub leads : (reach : Reach) (xs : List Step) → fill (arrives reach) (drop first b.jumps.items) xs ≡ fill (arrives (in_loop reach (length s.steps) t)) (drop first q.jumps.items) xs

ended_wrote :
    (a p q b : Writer) (s : Listing) (m n total t : ℕ) (g : Form) (w : Wrote p q n (formed g p)) (x0 x y : List Coded)
    → p.emitter ≡ followed a.emitter x0 m → length x0 ≡ length x → p.jumps.items ≡ a.jumps.items → p.back ≡ a.back
    → s ≡ followed a.emitter (x ++ (w.draft ++ y)) total → Ended q b s (length a.jumps.items) t
    → Wrote a b total (λ reach. x ++ (g a.emitter.constants a.back (a.emitter.made + m) (length a.emitter.steps + length x) (in_loop reach (length s.steps) t) ++ y))
ended_wrote a p q b s m n total t g w x0 x y p_is same jumps back s_is d =
    let old : q.jumps.items ≡ a.jumps.items ++ w.jumps = w.jumps_are ∙ ap (λ l. l ++ w.jumps) jumps in
    recoded a b total (λ reach. x ++ (formed g p (in_loop reach (length s.steps) t) ++ y)) _
    (enclosed a p q b total n (formed g p) w x y (drop (length a.jumps.items) b.jumps.items) (λ reach. in_loop reach (length s.steps) t)
    (written_sized a.emitter p.emitter x0 m p_is ∙ ap (λ l. length a.emitter.steps + l) same) (d.emitter_is ∙ s_is)
    (led_anew a.jumps.items q.jumps.items b.jumps.items w.jumps old d.front) (d.back_is ∙ w.back_is ∙ back)
    (λ reach xs. d.leads reach xs ∙ ap (λ js. fill (arrives (in_loop reach (length s.steps) t)) js xs) (behind_seam a.jumps.items q.jumps.items w.jumps old)))
    (λ reach. ap (λ c. x ++ (c ++ y)) (form_at g a p m x0 (length x) p_is back same (in_loop reach (length s.steps) t)))

pub looped :
    (a p q b : Writer) (s : Listing) (m n total first t : ℕ) (g : Form) (w : Wrote p q n (formed g p)) (x0 x y : List Coded)
    → p.emitter ≡ followed a.emitter x0 m → length x0 ≡ length x → p.jumps.items ≡ a.jumps.items → p.back ≡ a.back
    → s ≡ followed a.emitter (x ++ (w.draft ++ y)) total → first ≡ length a.jumps.items → Ended q b s first t
    → Wrote a b total (λ reach. x ++ (g a.emitter.constants a.back (a.emitter.made + m) (length a.emitter.steps + length x) (in_loop reach (length s.steps) t) ++ y))
looped a p q b s m n total first t g w x0 x y p_is same jumps back s_is first_is d = ended_wrote a p q b s m n total t g w x0 x y p_is same jumps back s_is (subst (λ f. Ended q b s f t) first_is d)

abbrev pub block_form : Block → (closing : Bool) → (outer t : ℕ) → Form
block_form block closing outer t k back j pc reach = block_code k back block closing outer t j pc reach

pub block_long :
    (a p q : Writer) (m x n : ℕ) (block : Block) (closing : Bool) (outer t : ℕ) (code : List Coded) (w : Wrote p q n (formed (block_form block closing outer t) p))
    → p.emitter ≡ followed a.emitter code m → p.back ≡ a.back → length code ≡ x
    → length w.draft ≡ block_size a.emitter.constants a.back block closing outer t (a.emitter.made + m)
block_long a p q m x n block closing outer t code w e k h =
    sym (draft_sized p q n (formed (block_form block closing outer t) p) w nowhere)
    ∙ ap length (form_at (block_form block closing outer t) a p m code x e k h nowhere)
    ∙ block_sized a.emitter.constants a.back block closing outer t (a.emitter.made + m) (length a.emitter.steps + x) nowhere

-- `while`

while_form :
    (test : ℕ → List Coded) (block : List Coded) (line d places : ℕ) → d ≡ length block + 1 → places ≡ length (test (length block + 1)) + length block + 1
    → test d ++ (block ++ jump_back places line ∷ []) ≡ while_code test block line
while_form test block line d places d_is places_is = ap₂ (λ u v. test u ++ (block ++ jump_back v line ∷ [])) d_is places_is

while_is :
    (k : List Const) (back : Leaving) (e : Exp) (block : Block) (closing : Bool) (t line j pc d x places end : ℕ) (reach : Reach)
    → x ≡ length (test_code k e true 0 t j) → d ≡ block_size k back block closing t t (j + made_by e) + 1
    → places ≡ length (test_code k e true 0 t j) + block_size k back block closing t t (j + made_by e) + 1
    → end ≡ pc + (length (test_code k e true 0 t j) + (block_size k back block closing t t (j + made_by e) + 1))
    → test_code k e true d t j ++ (block_code k back block closing t t (j + made_by e) (pc + x) (in_loop reach end t) ++ jump_back places line ∷ []) ≡ stat_code k back (While line e block) closing t j pc reach
while_is k back e block closing t line j pc d x places end reach x_is d_is places_is end_is =
    let test : ℕ → List Coded = λ ahead. test_code k e true ahead t j in
    let inner : List Coded = block_code k back block closing t t (j + made_by e) (pc + length (test 0)) (in_loop reach (pc + stat_size k back (While line e block) closing t j) t) in
    let size : length inner ≡ block_size k back block closing t t (j + made_by e) = block_sized k back block closing t t (j + made_by e) (pc + length (test 0)) (in_loop reach (pc + stat_size k back (While line e block) closing t j) t) in
    let long = test_sized k e true (length inner + 1) t j in
    ap₂ (λ n m. test d ++ (block_code k back block closing t t (j + made_by e) (pc + n) (in_loop reach m t) ++ jump_back places line ∷ [])) x_is end_is
    ∙ while_form test inner line d places (d_is ∙ ap (λ n. n + 1) (sym size)) (places_is ∙ ap₂ (λ m n. m + n + 1) (sym long) (sym size))

pub while_wrote :
    (a p q b : Writer) (s5 s6 : Listing) (e : Exp) (block : Block) (closing : Bool) (t line start there first : ℕ) (away : List ℕ)
    → start ≡ length a.emitter.steps → first ≡ length a.jumps.items
    → Opened a.emitter p.emitter (λ ahead. test_code a.emitter.constants e true ahead t a.emitter.made) (made_by e) away → p.jumps.items ≡ a.jumps.items → p.back ≡ a.back
    → WroteBlock p q block closing t t
    → s5 ≡ listed q.emitter (jump_back (length q.emitter.steps + 1 - start) line ∷ []) → there ≡ length s5.steps → s6 ≡ led_on s5 away there
    → Ended q b s6 first t
    → WroteStat a b (While line e block) closing t
while_wrote a p q b s5 s6 e block closing t line start there first away start_is first_is o jumps back w e5 there_is led end =
    let k = a.emitter.constants in
    let j = a.emitter.made in
    let pc = length a.emitter.steps in
    let test : ℕ → List Coded = λ ahead. test_code k e true ahead t j in
    let m = made_in_block block in
    let s0 : Listing = followed a.emitter (test 0) (made_by e) in
    let p0 : Writer = record p { emitter = s0 } in
    let q0 : Writer = record q { emitter = followed s0 w.draft m } in
    let w0 : WroteBlock p0 q0 block closing t t = behind_other a p q test (made_by e) m away (block_form block closing t t) w o in
    let size = block_size k a.back block closing t t (j + made_by e) in
    let places = length q.emitter.steps + 1 - start in
    let behind = jump_back places line ∷ [] in
    let d = length w.draft + 1 in
    let five : s5 ≡ followed p.emitter (w.draft ++ behind) m = e5 ∙ ap (λ s. listed s behind) w.emitter_is ∙ listed_after p.emitter w.draft m behind in
    let five_long = written_sized p.emitter s5 (w.draft ++ behind) m five in
    let s_ends : length (w.draft ++ behind) ≡ d = length-append w.draft behind in
    let placed : s6 ≡ followed a.emitter (test d ++ (w.draft ++ behind)) (made_by e + m) = opened_led a.emitter p.emitter s5 s6 test (made_by e) away (w.draft ++ behind) m there d o five (omega (arith, there_is, five_long, s_ends)) led in
    let sized : length (test d) ≡ length (test 0) = test_sized k e true d t j in
    let long : length w.draft ≡ size = block_long a p0 q0 (made_by e) (length (test 0)) m block closing t t (test 0) w0 refl back refl in
    let p_long = opened_long a.emitter p.emitter test (made_by e) away o in
    let q_long = written_sized p.emitter q.emitter w.draft m w.emitter_is in
    let s_long = written_sized a.emitter s6 (test d ++ (w.draft ++ behind)) (made_by e + m) placed in
    let s_parts = length-append (test d) (w.draft ++ behind) in
    let ends : length s6.steps ≡ pc + (length (test 0) + (size + 1)) = omega (arith, s_long, s_parts, s_ends, sized, long) in
    let goes_back : places ≡ length (test 0) + size + 1 = omega (arith, start_is, p_long, q_long, long) in
    recoded a b (made_by e + m) _ _
    (looped a p0 q0 b s6 (made_by e) m (made_by e + m) first t (block_form block closing t t) w0 (test 0) (test d) behind refl (sym sized) jumps back placed first_is
    (record { emitter_is = end.emitter_is; back_is = end.back_is; front = end.front; leads = end.leads }))
    (λ reach. while_is k a.back e block closing t line j pc d (length (test d)) places (length s6.steps) reach sized (ap (λ n. n + 1) long) goes_back ends)

-- `repeat`

abbrev pub open_form : Block → (closing : Bool) → (t : ℕ) → Form
open_form block closing t k back j pc reach = open_code k back block closing t j pc reach

repeat_is :
    (k : List Const) (back : Leaving) (e : Exp) (block : Block) (closing : Bool) (t line end_line j pc inner places end : ℕ) (reach : Reach)
    → inner ≡ levels_in block t → end_line ≡ line_of_end block
    → places ≡ open_size k back block closing t j + length (test_code k e false 0 inner (j + made_in_block block)) + length (close_code t (closed_until block e t) end_line) + 1
    → end ≡ pc + (open_size k back block closing t j + (length (test_code k e false 0 inner (j + made_in_block block)) + (length (close_code t (closed_until block e t) end_line) + length (close_code t (closed_until block e t) end_line) + 1)))
    → open_code k back block closing t j pc (in_loop reach end t) ++ until_code (λ ahead. test_code k e false ahead inner (j + made_in_block block)) (close_code t (closed_until block e t) end_line) places line
    ≡ stat_code k back (Repeat line block e) closing t j pc reach
repeat_is k back e block closing t line end_line j pc inner places end reach inner_is line_is places_is end_is =
    subst (λ i. (l : ℕ) → l ≡ line_of_end block
    → places ≡ open_size k back block closing t j + length (test_code k e false 0 i (j + made_in_block block)) + length (close_code t (closed_until block e t) l) + 1
    → end ≡ pc + (open_size k back block closing t j + (length (test_code k e false 0 i (j + made_in_block block)) + (length (close_code t (closed_until block e t) l) + length (close_code t (closed_until block e t) l) + 1)))
    → open_code k back block closing t j pc (in_loop reach end t) ++ until_code (λ ahead. test_code k e false ahead i (j + made_in_block block)) (close_code t (closed_until block e t) l) places line ≡ stat_code k back (Repeat line block e) closing t j pc reach)
    (sym inner_is) at_level end_line line_is places_is end_is
  where
    at_level : (l : ℕ) → l ≡ line_of_end block
        → places ≡ open_size k back block closing t j + length (test_code k e false 0 (levels_in block t) (j + made_in_block block)) + length (close_code t (closed_until block e t) l) + 1
        → end ≡ pc + (open_size k back block closing t j + (length (test_code k e false 0 (levels_in block t) (j + made_in_block block)) + (length (close_code t (closed_until block e t) l) + length (close_code t (closed_until block e t) l) + 1)))
        → open_code k back block closing t j pc (in_loop reach end t) ++ until_code (λ ahead. test_code k e false ahead (levels_in block t) (j + made_in_block block)) (close_code t (closed_until block e t) l) places line ≡ stat_code k back (Repeat line block e) closing t j pc reach
    at_level l l_is p_is e_is =
        let within = levels_in block t in
        let low = closed_until block e t in
        let test : ℕ → List Coded = λ ahead. test_code k e false ahead within (j + made_in_block block) in
        let close = close_code t low (line_of_end block) in
        let behind : ℕ = pc + stat_size k back (Repeat line block e) closing t j in
        let place : end ≡ behind = e_is ∙ ap (λ n. pc + (open_size k back block closing t j + (length (test 0) + (n + n + 1)))) (close_sized t low l line) in
        let size = open_sized k back block closing t j pc (in_loop reach behind t) in
        let long = test_sized k e false (length close + 1) within (j + made_in_block block) in
        let back_is : places ≡ length (open_code k back block closing t j pc (in_loop reach behind t)) + length (test (length close + 1)) + length close + 1 =
        p_is ∙ ap₂ (λ m n. m + length (test 0) + n + 1) (sym size) (close_sized t low l (line_of_end block))
        ∙ ap (λ n. length (open_code k back block closing t j pc (in_loop reach behind t)) + n + length close + 1) (sym long) in
        ap (λ m. open_code k back block closing t j pc (in_loop reach m t) ++ until_code test (close_code t low l) places line) place
        ∙ ap₂ (λ m n. open_code k back block closing t j pc (in_loop reach behind t) ++ until_code test (close_code t low m) n line) l_is back_is

-- the place where a `repeat` begins is the place of its block
pub repeat_wrote :
    (a q b : Writer) (s6 : Listing) (e : Exp) (block : Block) (closing : Bool) (t line end_line inner top start first : ℕ)
    → start ≡ length a.emitter.steps → first ≡ length a.jumps.items
    → WroteOpen a q block closing t → inner ≡ levels_in block t → end_line ≡ line_of_end block → top ≡ closed_until block e t
    → s6 ≡ followed q.emitter (until_code (λ ahead. test_code q.emitter.constants e false ahead inner q.emitter.made) (close_code t top end_line)
    (length q.emitter.steps + length (test_code q.emitter.constants e false 0 inner q.emitter.made) + length (close_code t top end_line) + 1 - start) line) (made_by e)
    → Ended q b s6 first t
    → WroteStat a b (Repeat line block e) closing t
repeat_wrote a q b s6 e block closing t line end_line inner top start first start_is first_is w inner_is line_is top_is ends_by end =
    let k = a.emitter.constants in
    let j = a.emitter.made in
    let pc = length a.emitter.steps in
    let m = made_in_block block in
    let test : ℕ → List Coded = λ ahead. test_code k e false ahead inner (j + m) in
    let close = close_code t (closed_until block e t) end_line in
    let e6 : s6 ≡ followed q.emitter (until_code (λ ahead. test_code q.emitter.constants e false ahead inner q.emitter.made) close (length q.emitter.steps + length (test_code q.emitter.constants e false 0 inner q.emitter.made) + length close + 1 - start) line) (made_by e) =
    ends_by ∙ ap (λ u. followed q.emitter (until_code (λ ahead. test_code q.emitter.constants e false ahead inner q.emitter.made) (close_code t u end_line)
    (length q.emitter.steps + length (test_code q.emitter.constants e false 0 inner q.emitter.made) + length (close_code t u end_line) + 1 - start) line) (made_by e)) top_is in
    let size = open_size k a.back block closing t j in
    let places = length q.emitter.steps + length (test 0) + length close + 1 - start in
    let ends = until_code test close places line in
    let a_is : a.emitter ≡ followed a.emitter [] 0 = nothing_listed a.emitter ∙ sym (none_made a.emitter []) in
    let six : s6 ≡ followed q.emitter ends (made_by e) =
    e6 ∙ ap (λ s. followed q.emitter (until_code (λ ahead. test_code s.constants e false ahead inner s.made) close (length q.emitter.steps + length (test_code s.constants e false 0 inner s.made) + length close + 1 - start) line) (made_by e)) w.emitter_is in
    let placed : s6 ≡ followed a.emitter (w.draft ++ ends) (m + made_by e) = six ∙ ap (λ s. followed s ends (made_by e)) w.emitter_is ∙ after a.emitter w.draft m ends (made_by e) in
    let long : length w.draft ≡ size = sym (draft_sized a q m (formed (open_form block closing t) a) w nowhere) ∙ open_sized k a.back block closing t j pc nowhere in
    let q_long = written_sized a.emitter q.emitter w.draft m w.emitter_is in
    let s_long = written_sized a.emitter s6 (w.draft ++ ends) (m + made_by e) placed in
    let s_parts = length-append w.draft ends in
    let s_ends = until_sized test close places line in
    let sized = test_sized k e false (length close + 1) inner (j + m) in
    let goes_back : places ≡ size + length (test 0) + length close + 1 = omega (arith, start_is, q_long, long) in
    let end_is : length s6.steps ≡ pc + (size + (length (test 0) + (length close + length close + 1))) = omega (arith, s_long, s_parts, s_ends, sized, long) in
    recoded a b (m + made_by e) _ _
    (looped a a q b s6 0 m (m + made_by e) first t (open_form block closing t) w [] [] ends a_is refl refl refl placed first_is end)
    (λ reach. ap₂ (λ i n. open_code k a.back block closing t i n (in_loop reach (length s6.steps) t) ++ ends) (no_further j) (no_further pc) ∙ repeat_is k a.back e block closing t line end_line j pc inner places (length s6.steps) reach inner_is line_is goes_back end_is)
  where
    until_sized : (test : ℕ → List Coded) (close : List Coded) (places line : ℕ) → length (until_code test close places line) ≡ length (test (length close + 1)) + (length close + length close + 1)
    until_sized test close places line =
        let behind = jump_back places line ∷ close in
        let x = length-append (test (length close + 1)) (close ++ behind) in
        let y = length-append close behind in
        omega (arith, x, y)

-- `for`, behind its values. The instruction in front of the rounds is put anew once their number of instructions is known

replaced_first : (s : Listing) (x y : Coded) (code : List Coded) (m : ℕ) → replaced (followed s (x ∷ code) m) (length s.steps) y ≡ followed s (y ∷ code) m
replaced_first s x y code m = ap (λ l. listing s.constants l (s.made + m)) (set-append_seam s.steps (step x) (steps code) (step y))

rounds_placed :
    (a p q : Writer) (s4 s5 : Listing) (m : ℕ) (f : Reach → List Coded) (w : Wrote p q m f) (prep prep' : Coded) (y : List Coded)
    → p.emitter ≡ listed a.emitter (prep ∷ []) → s4 ≡ listed q.emitter y → s5 ≡ replaced s4 (length a.emitter.steps) prep'
    → s5 ≡ followed a.emitter (prep' ∷ (w.draft ++ y)) m
rounds_placed a p q s4 s5 m f w prep prep' y e1 e4 e5 =
    let p_is : p.emitter ≡ followed a.emitter (prep ∷ []) 0 = e1 ∙ sym (none_made a.emitter (prep ∷ [])) in
    let four : s4 ≡ followed a.emitter (prep ∷ (w.draft ++ y)) (0 + m) =
    e4 ∙ ap (λ s. listed s y) w.emitter_is ∙ listed_after p.emitter w.draft m y ∙ ap (λ s. followed s (w.draft ++ y) m) p_is ∙ after a.emitter (prep ∷ []) 0 (w.draft ++ y) m in
    e5 ∙ ap (λ s. replaced s (length a.emitter.steps) prep') four ∙ replaced_first a.emitter prep prep' (w.draft ++ y) (0 + m) ∙ ap (followed a.emitter (prep' ∷ (w.draft ++ y))) (zero_more m)
  where
    zero_more : (n : ℕ) → 0 + n ≡ n
    zero_more n = omega arith

pub rounds_wrote :
    (a p q b : Writer) (s4 s5 : Listing) (block : Block) (closing : Bool) (outer inner t first : ℕ) (prep prep' : Coded) (y : List Coded)
    → first ≡ length a.jumps.items
    → p.emitter ≡ listed a.emitter (prep ∷ []) → p.jumps.items ≡ a.jumps.items → p.back ≡ a.back
    → (w : WroteBlock p q block closing outer inner)
    → s4 ≡ listed q.emitter y → s5 ≡ replaced s4 (length a.emitter.steps) prep'
    → Ended q b s5 first t
    → Wrote a b (made_in_block block) (λ reach. prep' ∷ (block_code a.emitter.constants a.back block closing outer inner a.emitter.made (length a.emitter.steps + 1) (in_loop reach (length s5.steps) t) ++ y))
rounds_wrote a p q b s4 s5 block closing outer inner t first prep prep' y first_is e1 jumps back w e4 e5 end =
    let m = made_in_block block in
    recoded a b m _ _
    (looped a p q b s5 0 m m first t (block_form block closing outer inner) w (prep ∷ []) (prep' ∷ []) y (e1 ∙ sym (none_made a.emitter (prep ∷ []))) refl jumps back
    (rounds_placed a p q s4 s5 m (formed (block_form block closing outer inner) p) w prep prep' y e1 e4 e5) first_is end)
    (λ reach. ap (λ i. prep' ∷ (block_code a.emitter.constants a.back block closing outer inner i (length a.emitter.steps + 1) (in_loop reach (length s5.steps) t) ++ y)) (no_further a.emitter.made))

rounds_long :
    (a p q : Writer) (s4 s5 : Listing) (block : Block) (closing : Bool) (outer inner : ℕ) (prep prep' : Coded) (y : List Coded) (w : WroteBlock p q block closing outer inner)
    → p.emitter ≡ listed a.emitter (prep ∷ []) → p.back ≡ a.back → s4 ≡ listed q.emitter y → s5 ≡ replaced s4 (length a.emitter.steps) prep'
    → (length q.emitter.steps - (length a.emitter.steps + 1) ≡ block_size a.emitter.constants a.back block closing outer inner a.emitter.made)
    × (length s5.steps ≡ length a.emitter.steps + (block_size a.emitter.constants a.back block closing outer inner a.emitter.made + (length y + 1)))
rounds_long a p q s4 s5 block closing outer inner prep prep' y w e1 back e4 e5 =
    let m = made_in_block block in
    let p_is : p.emitter ≡ followed a.emitter (prep ∷ []) 0 = e1 ∙ sym (none_made a.emitter (prep ∷ [])) in
    let long : length w.draft ≡ block_size a.emitter.constants a.back block closing outer inner a.emitter.made =
    block_long a p q 0 1 m block closing outer inner (prep ∷ []) w p_is back refl ∙ ap (block_size a.emitter.constants a.back block closing outer inner) (no_further a.emitter.made) in
    let p_long = written_sized a.emitter p.emitter (prep ∷ []) 0 p_is in
    let q_long = written_sized p.emitter q.emitter w.draft m w.emitter_is in
    let s_long = written_sized a.emitter s5 (prep' ∷ (w.draft ++ y)) m (rounds_placed a p q s4 s5 m (formed (block_form block closing outer inner) p) w prep prep' y e1 e4 e5) in
    let parts = length-append w.draft y in
    (omega (arith, long, p_long, q_long), omega (arith, long, s_long, parts))

pub counted_is :
    (k : List Const) (back : Leaving) (block : Block) (closing : Bool) (t line j pc size end : ℕ) (reach : Reach)
    → size ≡ block_size k back block closing (t + 3) (t + 4) j → end ≡ pc + (block_size k back block closing (t + 3) (t + 4) j + 2)
    → with_abx ForPrep t size line ∷ (block_code k back block closing (t + 3) (t + 4) j (pc + 1) (in_loop reach end t) ++ with_abx ForLoop t (size + 1) line ∷ []) ≡ counted_code k back block closing t j pc line reach
counted_is k back block closing t line j pc size end reach size_is end_is =
    let inner : List Coded = block_code k back block closing (t + 3) (t + 4) j (pc + 1) (in_loop reach (pc + (block_size k back block closing (t + 3) (t + 4) j + 2)) t) in
    let long : size ≡ length inner = size_is ∙ sym (block_sized k back block closing (t + 3) (t + 4) j (pc + 1) (in_loop reach (pc + (block_size k back block closing (t + 3) (t + 4) j + 2)) t)) in
    ap (λ n. with_abx ForPrep t size line ∷ (block_code k back block closing (t + 3) (t + 4) j (pc + 1) (in_loop reach n t) ++ with_abx ForLoop t (size + 1) line ∷ [])) end_is
    ∙ ap (λ n. with_abx ForPrep t n line ∷ (inner ++ with_abx ForLoop t (n + 1) line ∷ [])) long

pub iterated_is :
    (k : List Const) (back : Leaving) (block : Block) (n t line j pc size end : ℕ) (reach : Reach)
    → size ≡ block_size k back block true (t + 4) (t + 4 + n) j → end ≡ pc + (block_size k back block true (t + 4) (t + 4 + n) j + 4)
    → with_abx TForPrep t size line ∷ (block_code k back block true (t + 4) (t + 4 + n) j (pc + 1) (in_loop reach end t) ++ (with_abc TForCall t 0 n line ∷ with_abx TForLoop t (size + 2) line ∷ with_abc Close t 0 0 line ∷ []))
    ≡ iterated_code k back block n t j pc line reach
iterated_is k back block n t line j pc size end reach size_is end_is =
    let inner : List Coded = block_code k back block true (t + 4) (t + 4 + n) j (pc + 1) (in_loop reach (pc + (block_size k back block true (t + 4) (t + 4 + n) j + 4)) t) in
    let long : size ≡ length inner = size_is ∙ sym (block_sized k back block true (t + 4) (t + 4 + n) j (pc + 1) (in_loop reach (pc + (block_size k back block true (t + 4) (t + 4 + n) j + 4)) t)) in
    ap (λ m. with_abx TForPrep t size line ∷ (block_code k back block true (t + 4) (t + 4 + n) j (pc + 1) (in_loop reach m t) ++ (with_abc TForCall t 0 n line ∷ with_abx TForLoop t (size + 2) line ∷ with_abc Close t 0 0 line ∷ []))) end_is
    ∙ ap (λ m. with_abx TForPrep t m line ∷ (inner ++ (with_abc TForCall t 0 n line ∷ with_abx TForLoop t (m + 2) line ∷ with_abc Close t 0 0 line ∷ []))) long

pub counted_wrote :
    (a p q b : Writer) (s4 s5 : Listing) (block : Block) (closing : Bool) (t line first size outer inner : ℕ)
    → first ≡ length a.jumps.items → outer ≡ t + 3 → inner ≡ t + 4
    → p.emitter ≡ listed a.emitter (with_abx ForPrep t 0 line ∷ []) → p.jumps.items ≡ a.jumps.items → p.back ≡ a.back
    → WroteBlock p q block closing outer inner → size ≡ length q.emitter.steps - (length a.emitter.steps + 1)
    → s4 ≡ listed q.emitter (with_abx ForLoop t (size + 1) line ∷ []) → s5 ≡ replaced s4 (length a.emitter.steps) (with_abx ForPrep t size line)
    → Ended q b s5 first t
    → Wrote a b (made_in_block block) (λ reach. counted_code a.emitter.constants a.back block closing t a.emitter.made (length a.emitter.steps) line reach)
counted_wrote a p q b s4 s5 block closing t line first size outer inner first_is outer_is inner_is e1 jumps back w size_is e4 e5 end =
    let v : WroteBlock p q block closing (t + 3) (t + 4) = subst (λ n. WroteBlock p q block closing (t + 3) n) inner_is (subst (λ n. WroteBlock p q block closing n inner) outer_is w) in
    let ends = with_abx ForLoop t (size + 1) line ∷ [] in
    let long = rounds_long a p q s4 s5 block closing (t + 3) (t + 4) (with_abx ForPrep t 0 line) (with_abx ForPrep t size line) ends v e1 back e4 e5 in
    recoded a b (made_in_block block) _ _
    (rounds_wrote a p q b s4 s5 block closing (t + 3) (t + 4) t first (with_abx ForPrep t 0 line) (with_abx ForPrep t size line) ends first_is e1 jumps back v e4 e5 end)
    (λ reach. counted_is a.emitter.constants a.back block closing t line a.emitter.made (length a.emitter.steps) size (length s5.steps) reach (size_is ∙ long.0) long.1)

pub iterated_wrote :
    (a p q b : Writer) (s2 s3 s4 s5 : Listing) (block : Block) (n t line first size outer inner : ℕ)
    → first ≡ length a.jumps.items → outer ≡ t + 4 → inner ≡ outer + n
    → p.emitter ≡ listed a.emitter (with_abx TForPrep t 0 line ∷ []) → p.jumps.items ≡ a.jumps.items → p.back ≡ a.back
    → WroteBlock p q block true outer inner → size ≡ length q.emitter.steps - (length a.emitter.steps + 1)
    → s2 ≡ listed q.emitter (with_abc TForCall t 0 n line ∷ []) → s3 ≡ listed s2 (with_abx TForLoop t (size + 2) line ∷ []) → s4 ≡ listed s3 (with_abc Close t 0 0 line ∷ [])
    → s5 ≡ replaced s4 (length a.emitter.steps) (with_abx TForPrep t size line)
    → Ended q b s5 first t
    → Wrote a b (made_in_block block) (λ reach. iterated_code a.emitter.constants a.back block n t a.emitter.made (length a.emitter.steps) line reach)
iterated_wrote a p q b s2 s3 s4 s5 block n t line first size outer inner first_is outer_is inner_is e1 jumps back w size_is e2 e3 e4 e5 end =
    let v : WroteBlock p q block true (t + 4) (t + 4 + n) =
    subst (λ i. WroteBlock p q block true (t + 4) i) (inner_is ∙ ap (λ o. o + n) outer_is) (subst (λ o. WroteBlock p q block true o inner) outer_is w) in
    let ends = with_abc TForCall t 0 n line ∷ with_abx TForLoop t (size + 2) line ∷ with_abc Close t 0 0 line ∷ [] in
    let four : s4 ≡ listed q.emitter ends =
    e4 ∙ ap (λ s. listed s (with_abc Close t 0 0 line ∷ [])) (two_listed q.emitter s2 s3 (with_abc TForCall t 0 n line) (with_abx TForLoop t (size + 2) line) e2 e3)
    ∙ both_listed q.emitter (with_abc TForCall t 0 n line ∷ with_abx TForLoop t (size + 2) line ∷ []) (with_abc Close t 0 0 line ∷ []) in
    let long = rounds_long a p q s4 s5 block true (t + 4) (t + 4 + n) (with_abx TForPrep t 0 line) (with_abx TForPrep t size line) ends v e1 back four e5 in
    recoded a b (made_in_block block) _ _
    (rounds_wrote a p q b s4 s5 block true (t + 4) (t + 4 + n) t first (with_abx TForPrep t 0 line) (with_abx TForPrep t size line) ends first_is e1 jumps back v four e5 end)
    (λ reach. iterated_is a.emitter.constants a.back block n t line a.emitter.made (length a.emitter.steps) size (length s5.steps) reach (size_is ∙ long.0) long.1)

-- behind their values

pub farther : (pc n size : ℕ) → pc + n + size ≡ pc + (n + size)
farther pc n size = omega arith

counting_joined :
    (k : List Const) (back : Leaving) (start : List Coded) (block : Block) (closing : Bool) (t line i j pc : ℕ) (reach : Reach) → i ≡ j
    → start ++ counted_code k back block closing t i (pc + length start) line reach
    ≡ counting_code start (block_code k back block closing (t + 3) (t + 4) j (pc + length start + 1) (in_loop reach (pc + (length start + (block_size k back block closing (t + 3) (t + 4) j + 2))) t)) t line
counting_joined k back start block closing t line i j pc reach e =
    ap (λ n. start ++ counted_code k back block closing t n (pc + length start) line reach) e
    ∙ ap (λ n. counting_code start (block_code k back block closing (t + 3) (t + 4) j (pc + length start + 1) (in_loop reach n t)) t line) (farther pc (length start) (block_size k back block closing (t + 3) (t + 4) j + 2))

iterating_joined :
    (k : List Const) (back : Leaving) (start : List Coded) (block : Block) (n t line j pc : ℕ) (reach : Reach)
    → start ++ iterated_code k back block n t j (pc + length start) line reach
    ≡ iterating_code start (block_code k back block true (t + 4) (t + 4 + n) j (pc + length start + 1) (in_loop reach (pc + (length start + (block_size k back block true (t + 4) (t + 4 + n) j + 4))) t)) t n line
iterating_joined k back start block n t line j pc reach =
    ap (λ m. iterating_code start (block_code k back block true (t + 4) (t + 4 + n) j (pc + length start + 1) (in_loop reach m t)) t n line) (farther pc (length start) (block_size k back block true (t + 4) (t + 4 + n) j + 4))

abbrev counted_form : Block → (closing : Bool) → (t line : ℕ) → Form
counted_form block closing t line k back j pc reach = counted_code k back block closing t j pc line reach

abbrev iterated_form : Block → (n t line : ℕ) → Form
iterated_form block n t line k back j pc reach = iterated_code k back block n t j pc line reach

pub num_for_wrote :
    (a q b : Writer) (s : Listing) (name : Name) (from limit : Exp) (step : Option Exp) (block : Block) (closing : Bool) (t line : ℕ)
    → s ≡ followed a.emitter (range_code a.emitter.constants from limit step t a.emitter.made line) (made_in_range from limit step)
    → q.emitter ≡ s → q.jumps.items ≡ a.jumps.items → q.back ≡ a.back
    → Wrote q b (made_in_block block) (formed (counted_form block closing t line) q)
    → WroteStat a b (num_for_of line name from limit step block) closing t
num_for_wrote a q b s name from limit None block closing t line e s_is jumps back w =
    let j = a.emitter.made in
    range_wrote a q b (NumFor line name from limit block) (bounds_code a.emitter.constants from limit t j line) (made_by from + made_by limit) (made_in_block block) closing t (counted_form block closing t line) (s_is ∙ e) jumps back w
    refl
    (λ reach. counting_joined a.emitter.constants a.back (bounds_code a.emitter.constants from limit t j line) block closing t line (j + (made_by from + made_by limit)) (j + made_by from + made_by limit) (length a.emitter.steps) reach (omega arith))
num_for_wrote a q b s name from limit (Some step) block closing t line e s_is jumps back w =
    let j = a.emitter.made in
    range_wrote a q b (NumForStep line name from limit step block) (steps_code a.emitter.constants from limit step t j) (made_by from + made_by limit + made_by step) (made_in_block block) closing t (counted_form block closing t line)
    (s_is ∙ e) jumps back w refl
    (λ reach. counting_joined a.emitter.constants a.back (steps_code a.emitter.constants from limit step t j) block closing t line (j + (made_by from + made_by limit + made_by step)) (j + made_by from + made_by limit + made_by step)
    (length a.emitter.steps) reach (omega arith))

pub gen_for_wrote :
    (a q b : Writer) (s : Listing) (names : List Name) (es : Exps) (block : Block) (closing : Bool) (n t line : ℕ) → n ≡ length names
    → s ≡ followed a.emitter (exps_code a.emitter.constants es (Some 4) t a.emitter.made line) (made_in es)
    → q.emitter ≡ s → q.jumps.items ≡ a.jumps.items → q.back ≡ a.back
    → Wrote q b (made_in_block block) (formed (iterated_form block n t line) q)
    → WroteStat a b (GenFor line names es block) closing t
gen_for_wrote a q b s names es block closing n t line n_is e s_is jumps back w =
    let j = a.emitter.made in
    let start = exps_code a.emitter.constants es (Some 4) t j line in
    let v : Wrote q b (made_in_block block) (formed (iterated_form block (length names) t line) q) = subst (λ m. Wrote q b (made_in_block block) (formed (iterated_form block m t line) q)) n_is w in
    range_wrote a q b (GenFor line names es block) start (made_in es) (made_in_block block) closing t (iterated_form block (length names) t line) (s_is ∙ e) jumps back v refl
    (λ reach. iterating_joined a.emitter.constants a.back start block (length names) t line (j + made_in es) (length a.emitter.steps) reach)

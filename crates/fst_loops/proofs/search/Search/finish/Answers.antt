use Rattle.std.proofs.Common.{◌≡◌, ℕ, ◌-◌, Bool, true, inl, inr, List, [], ◌∷◌, ◌++◌, length, drop, take, subst, sym, ap, ◌∙◌, refl, arith}
use Rattle.std.specs.Prelude.{vec_len}
use Rattle.std.proofs.lemmas.List.{with_items_is, take_rest}
use Rattle.fst_loops.specs.Searches.{set_all, IsNoted, Holds, KeepsMet, unseen_work}
use Rattle.fst_loops.specs.declared.search.Mark.{Mark}
use Rattle.fst_loops.specs.declared.search.Mark.TheVariants.{Done}
use Rattle.fst_loops.specs.declared.search.Part.{Part}
use Rattle.fst_loops.proofs.Parts.{front_left, unseen_work-met, length-set_all, one_less, last_some}
use Rattle.fst_loops.proofs.Steps.{moved}
use Rattle.fst_loops.proofs.Finishing.{finished, finished_met}
use Rattle.fst_loops.proofs.search.Search.finish.Goals as goal

rest_is : (path read : List ℕ) (i : ℕ) → read ≡ path → take (length read - i) (drop i read) ≡ drop i path
rest_is path read i is = take_rest read i ∙ ap (drop i) is

noted_length : (old : List Bool) (nodes : List ℕ) (new : List Bool) → IsNoted old nodes new → length new ≡ length old
noted_length old nodes new (inl n) = ap length n.1 ∙ length-set_all old nodes true
noted_length old nodes new (inr n) = ap length n.1

pub returns : goal.returns
returns c g e =
    let h = e.search in
    let last = e.last in
    let over = e.ended in
    let s = c.args.self.now in
    let b : Part = c.args.part in
    let nodes : List ℕ = drop c.args.part.first s.path.items in
    let read : List ℕ = take (length c.deref.result.now - c.args.part.first) (drop c.args.part.first c.deref.result.now) in
    let rest : read ≡ nodes = rest_is s.path.items c.deref.result.now c.args.part.first c.deref.ensures.value in
    let set : c.set_all.new.values ≡ set_all s.marks.items nodes Done =
    c.set_all.ensures ∙ ap (λ (m : List Mark). set_all m read Done) c.deref_mut.ensures.value ∙ ap
    (λ (n : List ℕ). set_all s.marks.items n Done) rest in
    let marks : take s.marks.len (c.set_all.new.values ++ drop (length c.set_all.new.values) s.marks.items) ≡ set_all
    s.marks.items nodes Done =
    with_items_is s.marks c.set_all.new.values (omega
    (arith, ap length set, length-set_all s.marks.items nodes Done, s.marks.ok.0)) ∙ set in
    let noted : IsNoted s.looped.items nodes c.note_loops.new.looped = subst
    (λ (n : List ℕ). IsNoted s.looped.items n c.note_loops.new.looped) rest
    (subst (λ (l : List Bool). IsNoted l read c.note_loops.new.looped) c.deref_mut-2.ensures.value c.note_loops.ensures) in
    let order : c.extend_from_slice.new.self.items ≡ s.order.items ++ nodes = c.in_ok-extend_from_slice.ensures.items ∙ ap
    (λ (n : List ℕ). s.order.items ++ n) rest in
    let parts : c.pop.new.self.items ≡ take (length s.parts.items - 1) s.parts.items = c.pop.ensures.rest ∙ ap
    (λ n. take (n - 1) s.parts.items) (let e : vec_len s.parts ≡ length s.parts.items = omega (arith, s.parts.ok.0) in e) in
    let looped : take s.looped.len (c.note_loops.new.looped ++ drop (length c.note_loops.new.looped) s.looped.items)
    ≡ c.note_loops.new.looped =
    with_items_is s.looped c.note_loops.new.looped
    (omega (arith, noted_length s.looped.items nodes c.note_loops.new.looped noted, s.looped.ok.0)) in
    let h' : Holds g s.marks.items s.path.items (last.0 ++ b ∷ []) s.pending.items s.order.items s.looped.items =
    moved h refl refl (sym last.1) refl refl refl in
    let front : c.pop.new.self.items ≡ last.0 = parts ∙ front_left s.parts.items last.0 b last.1 in
    let met : KeepsMet s.marks.items (set_all s.marks.items nodes Done) =
    finished_met g s.marks.items s.path.items last.0 b s.pending.items s.order.items s.looped.items c.note_loops.new.looped h'
    over noted in
    record {
      search = moved (finished g s.marks.items s.path.items last.0 b s.pending.items s.order.items s.looped.items
          c.note_loops.new.looped h' over noted) marks c.truncate.ensures.items front refl order looped;
      met = subst (λ (m : List Mark). KeepsMet s.marks.items m) (sym marks) met;
      less = omega (
        arith,
        ap (unseen_work g) marks,
        unseen_work-met g s.marks.items (set_all s.marks.items nodes Done) (sym (length-set_all s.marks.items nodes Done)) met,
        one_less s.parts.items c.pop.new.self.items (last_some s.parts.items b last) parts,
      );
    }

-- A piece that was read stands behind those before it. Assumes nothing.
use Rattle.std.proofs.Common.{rules, ℕ, ◌+◌, ◌≡◌, ◌≤◌, List, ◌++◌, length, take, sym, ap, subst, ◌∙◌, length-take-le}
use Rattle.std.proofs.Math.Seq.{take-append-add}
use Rattle.std.proofs.lemmas.List.{take-append-le}
use Rattle.std.proofs.KnownBytes.{Consumes-trans}
use Rattle.std.specs.Io.KnownBytes.{Consumes}
use borrow.Rule.Slice.PartMut.{put_mid, post_of}
use Rattle.input.proofs.read_full.Goals as goal

-- the first d bytes of a list, and m more where its part from d on was written over
grown : (d m k : ℕ) (old part : List ℕ) → d ≤ length old → m ≤ length part → take (d + m) (put_mid d k old part) ≡ take d old ++ take m part
grown d m k old part within fits =
    ap (λ (n : ℕ). take (n + m) (put_mid d k old part)) (sym (length-take-le d old within)) ∙ take-append-add (take d old) (part ++ post_of d k old) m
    ∙ ap (λ (xs : List ℕ). take d old ++ xs) (take-append-le m part (post_of d k old) fits)

pub loop-done-preserved : goal.loop-done-preserved
loop-done-preserved g c = record {
  bound = search rules;
  same = search rules;
  bytes =
      subst (Consumes (g.R.Read.remaining c.args.input.now) (g.R.Read.remaining c.read.new.self))
      (sym (grown _ _ _ _ _ c.loop-done.invariant.bound c.in-Ok.ensures.bound.0))
      (Consumes-trans _ _ _ _ _ c.loop-done.invariant.bytes c.in-Ok.ensures.bytes.0);
}

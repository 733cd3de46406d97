-- `put` meets its contract.
-- Assumes nothing.
use Rattle.std.proofs.Common.{◌+◌, ◌-◌, ◌≡◌, length, refl, arith, rules, ap, ◌∙◌}
use borrow.Rule.Slice.PartMut.{put_mid}
use Rattle.lines.proofs.WrittenLaws.{written_part}
use Rattle.lines.proofs.print.Cursor.put.Goals as goal

pub returns : goal.returns
returns c =
    let a = c.args.self.now in
    let n = a.at + length c.args.text.now - a.at in
    let same : length (put_mid a.at n a.out.now c.copy_from_slice.new.self) ≡ length a.out.now = search rules in
    record {
      same = refl;
      at = refl;
      fits = omega (arith, c.requires, same);
      size = same;
      out =
          ap (put_mid a.at n a.out.now) c.copy_from_slice.ensures.after
          ∙ written_part a.out.now a.at n c.args.text.now (omega arith) (omega (arith, c.requires));
    }

use Rattle.std.proofs.Common.{length, refl, arith}
use Rattle.std.proofs.lemmas.Slice.{put_mid-paste}
use Rattle.board.proofs.posting.append.Goals as goal

pub returns : goal.returns
returns c =
    let bytes = c.args.bytes.now in
    record {
      end = refl;
      area = put_mid-paste c.args.used _ c.args.area.now c.copy_from_slice.new.self bytes (length bytes) c.copy_from_slice.ensures.after (omega arith) refl;
    }

-- What a handle owns.
use Rattle.std.specs.Prelude.{Option, Some, None}
use Rattle.std.specs.declared.alloc.Global.{Global}
use Rattle.std.specs.contracts.impls.GlobalAllocator.TheImpl.{ghosts}
use Rattle.std.specs.Box.Ownership.{box_owns}
use Rattle.ddcmp_proto.specs.Station.{StationView}
use Rattle.ddcmp_proto.specs.contracts.station.Station as station
use Rattle.ddcmp_frame.specs.Reader.{ReaderView}
use Rattle.ddcmp_frame.specs.contracts.reader.Reader as reader
use base.Fml.{Fml, ftrue, ffalse}
use denote.RattleType.{RattleType}
use denote.RawPtr.{Ptr, block_ptr, null_ptr}

-- null if there is no value, else a pointer to a box with it
abbrev pub null_or_box : (R : RattleType) → Global → Ptr → Option R.Denot → Fml
null_or_box R alloc null_ptr None = ftrue
null_or_box R alloc null_ptr (Some s) = ffalse
null_or_box R alloc (block_ptr b o) None = ffalse
null_or_box R alloc (block_ptr b o) (Some s) =
    box_owns (ghosts.dealloc_token alloc) R (block_ptr b o) s

-- for a station
abbrev pub handle_owns : Global → Ptr → Option StationView → Fml
handle_owns alloc at s = null_or_box station.the_row alloc at s

-- for a reader
abbrev pub reader_handle_owns : Global → Ptr → Option ReaderView → Fml
reader_handle_owns alloc at r = null_or_box reader.the_row alloc at r

pub mod CopyView
pub mod CopyBinary
pub mod CopyStream
pub mod CutFrames
pub mod CopyPieces

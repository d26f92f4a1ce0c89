mod FieldLoop
mod StreamParts
mod CutStreams
mod Streams
mod Stays
mod PieceRows
mod Ends

mod Sizes
mod Frames
mod InFront
mod ExchangeLaws
mod Counted
mod Notices
mod Echoes

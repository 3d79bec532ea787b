mod Fronts
mod Sums
mod Years
mod Bytes
mod RoundTrip
mod One
pub mod Bodies
pub mod Rows
mod Stretches
mod EachMatcher
mod EachShown
mod OneMoment
mod OneList
mod ShownAgain
mod GettableTexts
mod GettableBytes
mod Refused
mod ListAgain

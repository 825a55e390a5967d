mod PlaceLaws
mod Meeting
mod Numbers
